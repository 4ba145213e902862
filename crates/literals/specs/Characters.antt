-- A character in single quotes, with a backslash before the backslash and the single quote only.
-- Assumes nothing.
use Rattle.std.specs.Prelude.{ℕ, cond, ◌||◌, List, [], ◌∷◌, ◌++◌, Option, ◌==◌}
use Rattle.chars.specs.Utf8.{scalar, encode}
use Rattle.words.specs.Refusals.{refused_unless}
use Rattle.words.specs.declared.refusal.Refusal.{Refusal}
use Rattle.words.specs.declared.refusal.Refusal.TheVariants.{NotScalar}

abbrev pub char_body : ℕ → List ℕ
char_body c = cond (c == 0x27 || c == 0x5C) (0x5C ∷ c ∷ []) (encode c)

abbrev pub character : ℕ → List ℕ
character c = 0x27 ∷ (char_body c ++ 0x27 ∷ [])

-- a number that is no scalar value is refused
abbrev pub char_refusal : ℕ → Option Refusal
char_refusal n = refused_unless (scalar n) NotScalar
