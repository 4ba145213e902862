-- What is asked of one range after another where a list is checked in one pass. The answer tells whether the list is a table;
-- that is proved, and what the making of a table promises does not speak of this check. Assumes nothing.
use Rattle.std.specs.Prelude.{ℕ, zero, suc, ◌+◌, Bool, true, not, ◌&&◌, ◌||◌, List, [], ◌∷◌, length, nat_le, nat_lt}
use Rattle.std.specs.Bool.{beq}
use Rattle.chars.specs.declared.ranges.Range.{Range}
use Rattle.chars.specs.Blanks.{none_in}
use Rattle.chars.specs.Blanks.{blanks}
use Rattle.chars.specs.Ranges.{holds, whole}
use Rattle.chars.specs.Tables.{letter, word, printable}

-- no printable character of ASCII from lo on and below hi
abbrev pub gap : ℕ → ℕ → Bool
gap lo hi = nat_le hi lo || (nat_le hi 0x20 || nat_lt 0x7E lo)

-- c is in the range's sets just where it is in those of ASCII
abbrev pub agreeing : Range → ℕ → Bool
agreeing r c = beq r.start (letter c) && (beq r.continues (word c) && beq r.shown (printable c))

-- each number below n
unfoldable pub each_below : ℕ → (ℕ → Bool) → Bool
each_below zero p = true
each_below (suc n) p = p n && each_below n p

-- all of ASCII that the range holds is in its sets just where it is in those of ASCII
abbrev pub classed : Range → Bool
classed r = each_below 0x80 (λ c. not (holds r c) || agreeing r c)

-- the range may stand in a list after ranges that end below lo
abbrev pub fits : ℕ → Range → Bool
fits lo r =
    nat_le lo r.first
    && (whole r && ((not r.start || r.continues) && (gap lo r.first && (classed r && (not r.continues || none_in (holds r) blanks)))))

-- so may all that are left, and behind them ASCII has nothing printable
unfoldable pub good_from : ℕ → List Range → Bool
good_from lo [] = gap lo 0x80
good_from lo (r ∷ rs) = fits lo r && good_from (r.last + 1) rs

abbrev pub good : List Range → Bool
good rs = nat_le (length rs) 4096 && good_from 0 rs
