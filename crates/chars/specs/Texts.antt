-- The bytes and the characters of a text; what it is to check that bytes are UTF-8, and to take the first character off a text.
-- Assumes nothing.
use Rattle.std.specs.Prelude.{◌≡◌, ℕ, true, List, [], ◌∷◌, ◌++◌, Some, None, Ok, Err, Option, Result}
use Rattle.chars.specs.Utf8.{scalar, encode, utf8, decoded, MalformedAt}
use Rattle.chars.specs.declared.text.Text.{Text}
use Rattle.chars.specs.declared.utf8.Malformed.{Malformed}

abbrev pub text_bytes : Text → List ℕ
text_bytes t = t.bytes.now

abbrev pub characters : Text → List ℕ
characters t = decoded (text_bytes t)

-- bytes that are UTF-8 are the text of themselves; of others it is told where they are not
abbrev pub Checked : List ℕ → Result Text Malformed → Type 0
Checked s (Ok t) = (utf8 s ≡ true) × (text_bytes t ≡ s)
Checked s (Err e) = MalformedAt s (Some e.at)

-- a text that is not empty is its first character and the text behind it, in bytes and in characters
abbrev pub SplitsFirst : Text → Option (ℕ × Text) → Type 0
SplitsFirst t None = (text_bytes t ≡ []) × (characters t ≡ [])
SplitsFirst t (Some p) = (scalar p.0 ≡ true) × (text_bytes t ≡ encode p.0 ++ text_bytes p.1) × (characters t ≡ p.0 ∷ characters p.1)
