-- Escaped text: a RON string in double quotes, in which each quote, each backslash and each character that is not shown has an escape.
-- A character is its number; `shown` is the table's set of the characters that stand for themselves. Assumes nothing.
use Rattle.std.specs.Prelude.{ℕ, Bool, cond, List, [], ◌∷◌, ◌++◌, codes, ◌==◌}
use Rattle.std.specs.List.{flat_map}
use Rattle.chars.specs.Utf8.{encode}
use Rattle.words.specs.Classes.{quoting}
use Rattle.words.specs.Numerals.{numeral}

abbrev pub backslash : ℕ
backslash = 0x5C

abbrev pub quote : ℕ
quote = 0x22

-- \u{h}, with the character's number in hexadecimal
abbrev pub code : ℕ → List ℕ
code c = codes "\\u{" ++ (numeral 16 c ++ codes "}")

-- \0 \t \n \r, a backslash before quotes and backslash, the character itself if it is shown, else its code
abbrev pub escape : (ℕ → Bool) → ℕ → List ℕ
escape shown c =
    cond (c == 0x00) (codes "\\0")
    (cond (c == 0x09) (codes "\\t")
    (cond (c == 0x0A) (codes "\\n")
    (cond (c == 0x0D) (codes "\\r")
    (cond (quoting c) (backslash ∷ c ∷ [])
    (cond (shown c) (encode c)
    (code c))))))

abbrev pub escapes : (ℕ → Bool) → List ℕ → List ℕ
escapes shown cs = flat_map (escape shown) cs

abbrev pub escaped_str : (ℕ → Bool) → List ℕ → List ℕ
escaped_str shown cs = quote ∷ (escapes shown cs ++ quote ∷ [])
