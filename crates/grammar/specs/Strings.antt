-- The strings of RON (docs/grammar.md of ron): texts, byte strings and characters with their escapes, and raw strings between hashes.
-- In each relation s is the text, x is what is meant, and r is what is left behind. Assumes nothing.
use Rattle.std.specs.Prelude.{◌≡◌, ℕ, Bool, true, false, cond, ◌&&◌, ◌||◌, List, [], ◌∷◌, ◌++◌, map, length, replicate, Some, None, codes, Option, ◌==◌, nat_le, nat_lt}
use Rattle.std.specs.Char.{digit_value}
use Rattle.std.specs.Int.Digits.{number_from_digits}
use Rattle.chars.specs.Utf8.{within, scalar, encode}
use Rattle.words.specs.Classes.{all, quoting}
use Rattle.words.specs.Escapes.{quote, backslash}
use Rattle.words.specs.RawText.{hash, leading_hashes}

-- what may not stand bare between double quotes: the closing quote and the backslash
abbrev pub special : ℕ → Bool
special c = c == quote || c == backslash

-- what a backslash and one character stand for: quotes and backslash for themselves, then \0 \t \n \r
abbrev pub short_escape : ℕ → Option ℕ
short_escape c =
    cond (quoting c) (Some c)
    (cond (c == 0x30) (Some 0x00)
    (cond (c == 0x74) (Some 0x09)
    (cond (c == 0x6E) (Some 0x0A)
    (cond (c == 0x72) (Some 0x0D) None))))

-- hexadecimal digits, in either case, and the number that they write
abbrev pub hex_digit : ℕ → Bool
hex_digit c = nat_lt (digit_value c) 16

abbrev pub hex_number : List ℕ → ℕ
hex_number h = number_from_digits 16 (map digit_value h)

-- one part of a text: a bare character, a short escape, or \u{h} with one to six digits of a scalar value
pub data TextPart : List ℕ → List ℕ → List ℕ → Type 0 where
  text_bare : {c : ℕ} {s r : List ℕ} → s ≡ c ∷ r → special c ≡ false → TextPart s (c ∷ []) r
  text_short : {c v : ℕ} {s r : List ℕ} → s ≡ backslash ∷ c ∷ r → short_escape c ≡ Some v → TextPart s (v ∷ []) r
  text_code : (h : List ℕ) {s r : List ℕ} → s ≡ codes "\\u{" ++ (h ++ 0x7D ∷ r) → all hex_digit h ≡ true → within 1 6 (length h) ≡ true → scalar (hex_number h) ≡ true → TextPart s (hex_number h ∷ []) r

-- one part of a byte string: a bare character, which stands for its UTF-8 bytes, a short escape, or \xhh
pub data BytePart : List ℕ → List ℕ → List ℕ → Type 0 where
  byte_bare : {c : ℕ} {s r : List ℕ} → s ≡ c ∷ r → special c ≡ false → BytePart s (encode c) r
  byte_short : {c v : ℕ} {s r : List ℕ} → s ≡ backslash ∷ c ∷ r → short_escape c ≡ Some v → BytePart s (v ∷ []) r
  byte_pair : {c d : ℕ} {s r : List ℕ} → s ≡ codes "\\x" ++ (c ∷ d ∷ r) → hex_digit c ≡ true → hex_digit d ≡ true → BytePart s (hex_number (c ∷ d ∷ []) ∷ []) r

-- behind an opening quote: parts, one after another, and the closing quote
pub data Quoted (Part : List ℕ → List ℕ → List ℕ → Type 0) : List ℕ → List ℕ → List ℕ → Type 0 where
  quoted_end : {s r : List ℕ} → s ≡ quote ∷ r → Quoted Part s [] r
  quoted_part : {s s' y x r : List ℕ} → Part s y s' → Quoted Part s' x r → Quoted Part s (y ++ x) r

-- between single quotes: a bare character, or a backslash before the backslash or the single quote
abbrev pub char_special : ℕ → Bool
char_special c = c == 0x27 || c == backslash

pub data Character : List ℕ → ℕ → List ℕ → Type 0 where
  char_bare : {c : ℕ} {s r : List ℕ} → s ≡ 0x27 ∷ c ∷ 0x27 ∷ r → char_special c ≡ false → Character s c r
  char_escape : {c : ℕ} {s r : List ℕ} → s ≡ 0x27 ∷ backslash ∷ c ∷ 0x27 ∷ r → char_special c ≡ true → Character s c r

-- a quote with at least n hashes behind it
abbrev pub fence : ℕ → List ℕ → Bool
fence n [] = false
fence n (c ∷ s) = c == quote && nat_le n (leading_hashes s)

-- behind an opening quote with n hashes before it: x, up to the first quote with n hashes behind it
pub data Fenced (n : ℕ) : List ℕ → List ℕ → List ℕ → Type 0 where
  fenced_end : {s r : List ℕ} → s ≡ quote ∷ (replicate n hash ++ r) → Fenced n s [] r
  fenced_char : {c : ℕ} {s s' x r : List ℕ} → s ≡ c ∷ s' → fence n s ≡ false → Fenced n s' x r → Fenced n s (c ∷ x) r
