-- The text of a float: `NaN`, `inf`, or digits with a point and digits, with an exponent, or with both; a minus may stand before any.
-- The digits before the point have no needless zero. Assumes nothing.
use Rattle.std.specs.Prelude.{ℕ, Bool, true, false, cond, ◌&&◌, ◌||◌, List, [], ◌∷◌, ◌++◌, codes, Option, ◌==◌}
use Rattle.chars.specs.Tables.{digit}
use Rattle.words.specs.Names.{same}
use Rattle.words.specs.Refusals.{first_refusal, refused_unless}
use Rattle.words.specs.declared.refusal.Refusal.{Refusal}
use Rattle.words.specs.declared.refusal.Refusal.TheVariants.{NotFloat}
use Rattle.literals.specs.Bytes.{bytes_refusal}
use Rattle.literals.specs.Integers.{suffix_if}
use Rattle.literals.specs.declared.float.Width.{Width}
use Rattle.literals.specs.declared.float.Width.TheVariants.{F32, F64}

-- what is behind the digits in front
abbrev pub past_digits : List ℕ → List ℕ
past_digits [] = []
past_digits (c ∷ s) = cond (digit c) (past_digits s) (c ∷ s)

abbrev pub ended : List ℕ → Bool
ended [] = true
ended (c ∷ s) = false

-- nothing but digits, and at least one
abbrev pub digits : List ℕ → Bool
digits [] = false
digits (c ∷ s) = digit c && ended (past_digits s)

-- behind the e: an optional minus, and digits
abbrev pub exponent : List ℕ → Bool
exponent [] = false
exponent (c ∷ s) = cond (c == 0x2D) (digits s) (digits (c ∷ s))

-- behind the digits of a fraction: the end, or e and an exponent
abbrev pub fraction_end : List ℕ → Bool
fraction_end [] = true
fraction_end (c ∷ s) = c == 0x65 && exponent s

-- behind the point: digits, and then that
abbrev pub fraction : List ℕ → Bool
fraction [] = false
fraction (c ∷ s) = digit c && fraction_end (past_digits s)

-- behind the digits before the point: a point and a fraction, or e and an exponent
abbrev pub behind_integer : List ℕ → Bool
behind_integer [] = false
behind_integer (c ∷ s) = cond (c == 0x2E) (fraction s) (c == 0x65 && exponent s)

-- a zero alone, or digits that do not begin with one
abbrev pub decimal : List ℕ → Bool
decimal [] = false
decimal (c ∷ s) = cond (c == 0x30) (behind_integer s) (digit c && behind_integer (past_digits s))

abbrev pub unsigned : List ℕ → Bool
unsigned s = same s (codes "NaN") || same s (codes "inf") || decimal s

abbrev pub float_text : List ℕ → Bool
float_text [] = false
float_text (c ∷ s) = cond (c == 0x2D) (unsigned s) (unsigned (c ∷ s))

-- a float: too long, or else not the text of one
abbrev pub float_refusal : List ℕ → Option Refusal
float_refusal s = first_refusal (bytes_refusal s) (refused_unless (float_text s) NotFloat)

abbrev pub float_suffix : Width → List ℕ
float_suffix F32 = codes "f32"
float_suffix F64 = codes "f64"

abbrev pub float : Bool → List ℕ → List ℕ → List ℕ
float on suffix s = s ++ suffix_if on suffix
