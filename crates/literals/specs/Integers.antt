-- Integers: plain decimal, with a minus for a negative one, and a suffix that names the type where suffixes are on.
-- Assumes nothing.
use Rattle.std.specs.Prelude.{ℕ, Bool, true, false, cond, List, [], ◌∷◌, ◌++◌, ℤ, pos, negsuc, unsigned_abs}
use Rattle.words.specs.Numerals.{numeral}

abbrev pub negative : ℤ → Bool
negative (pos n) = false
negative (negsuc n) = true

abbrev pub sign : Bool → List ℕ
sign minus = cond minus (0x2D ∷ []) []

abbrev pub suffix_if : Bool → List ℕ → List ℕ
suffix_if on suffix = cond on suffix []

abbrev pub integer : ℤ → Bool → List ℕ → List ℕ
integer v on suffix = sign (negative v) ++ (numeral 10 (unsigned_abs v) ++ suffix_if on suffix)
