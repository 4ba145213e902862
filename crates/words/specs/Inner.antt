-- What the contracts of private functions speak of. No public contract needs it.
-- Assumes nothing.
use Rattle.std.specs.Prelude.{◌≡◌, ℕ, Bool, List, [], ◌∷◌, Some, None, Ok, Err, Result}
use Rattle.chars.specs.Texts.{text_bytes}
use Rattle.chars.specs.Utf8.{encode}
use Rattle.chars.specs.declared.text.Text.{Text}
use Rattle.words.specs.Refusals.{name_refusal}
use Rattle.words.specs.declared.refusal.Refusal.{Refusal}
use Rattle.words.specs.Escapes.{backslash, code}
use Rattle.words.specs.declared.text.Escape.{Escape}
use Rattle.words.specs.declared.text.Escape.TheVariants.{Plain, Short, Code}

-- how the code's choice of an escape is written
abbrev pub written : Escape → ℕ → List ℕ
written Plain c = encode c
written (Short b) c = backslash ∷ b ∷ []
written Code c = code c

-- the text of a name, unless it is refused
abbrev pub IsName : (ℕ → Bool) → List ℕ → Result Text Refusal → Type 0
IsName continues s (Ok t) = (name_refusal continues s ≡ None) × (text_bytes t ≡ s)
IsName continues s (Err e) = name_refusal continues s ≡ Some e
