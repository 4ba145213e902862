-- A number in digits: most significant first, letters in lower case, no needless zero.
-- Assumes nothing.
use Rattle.std.specs.Prelude.{ℕ, cond, List, [], ◌∷◌, map, ◌==◌}
use Rattle.std.specs.Char.{digit_char}
use Rattle.std.specs.Int.Digits.{digits_of}

abbrev pub numeral : ℕ → ℕ → List ℕ
numeral base n = cond (n == 0) (digit_char 0 ∷ []) (map digit_char (digits_of base n))
