-- The blanks of RON: the characters that may stand between tokens.
-- They are the eleven of Unicode's Pattern_White_Space (UAX #31). Assumes nothing.
use Rattle.std.specs.Prelude.{ℕ, Bool, false, not, ◌||◌, List, [], ◌∷◌, ◌==◌}
use Rattle.std.specs.List.{list_all}

-- c is one of the list
abbrev pub among : List ℕ → ℕ → Bool
among [] c = false
among (d ∷ ds) c = c == d || among ds c

-- no character of a list is in a set
abbrev pub none_in : (ℕ → Bool) → List ℕ → Bool
none_in p = list_all (λ d. not (p d))

-- space, tab, LF, VT, FF, CR, next line, left-to-right and right-to-left mark, line and paragraph separator
abbrev pub blanks : List ℕ
blanks = 0x20 ∷ 0x09 ∷ 0x0A ∷ 0x0B ∷ 0x0C ∷ 0x0D ∷ 0x85 ∷ 0x200E ∷ 0x200F ∷ 0x2028 ∷ 0x2029 ∷ []

abbrev pub blank : ℕ → Bool
blank c = among blanks c
