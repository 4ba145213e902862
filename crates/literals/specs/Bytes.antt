-- Byte strings: escaped behind `b`, or like text without escapes behind `b` where they are UTF-8.
-- Assumes nothing.
use Rattle.std.specs.Prelude.{ℕ, ◌/◌, ◌%◌, cond, List, [], ◌∷◌, ◌++◌, length, codes, Option, ◌==◌, nat_le}
use Rattle.std.specs.List.{flat_map}
use Rattle.std.specs.Char.{digit_char}
use Rattle.chars.specs.Tables.{printable}
use Rattle.chars.specs.Utf8.{utf8, decoded}
use Rattle.words.specs.Classes.{quoting}
use Rattle.words.specs.RawText.{unescaped_or_raw_str}
use Rattle.words.specs.Refusals.{refused_unless, longest_argument}
use Rattle.words.specs.declared.refusal.Refusal.{Refusal}
use Rattle.words.specs.declared.refusal.Refusal.TheVariants.{TooLong}

-- a byte in two lower-case hexadecimal digits
abbrev pub digit_pair : ℕ → List ℕ
digit_pair b = digit_char (b / 16) ∷ digit_char (b % 16) ∷ []

-- \t \n \r, a backslash before quotes and backslash, printable ASCII as it is, else \xhh
abbrev pub byte_escape : ℕ → List ℕ
byte_escape b =
    cond (b == 0x09) (codes "\\t")
    (cond (b == 0x0A) (codes "\\n")
    (cond (b == 0x0D) (codes "\\r")
    (cond (quoting b) (0x5C ∷ b ∷ [])
    (cond (printable b) (b ∷ [])
    (codes "\\x" ++ digit_pair b)))))

abbrev pub escaped_byte_str : List ℕ → List ℕ
escaped_byte_str bs = codes "b\"" ++ (flat_map byte_escape bs ++ 0x22 ∷ [])

abbrev pub plain_byte_str : List ℕ → List ℕ
plain_byte_str bs = 0x62 ∷ unescaped_or_raw_str (decoded bs)

abbrev pub unescaped_or_raw_byte_str : List ℕ → List ℕ
unescaped_or_raw_byte_str bs = cond (utf8 bs) (plain_byte_str bs) (escaped_byte_str bs)

-- a byte string that is too long is refused
abbrev pub bytes_refusal : List ℕ → Option Refusal
bytes_refusal bs = refused_unless (nat_le (length bs) longest_argument) TooLong
