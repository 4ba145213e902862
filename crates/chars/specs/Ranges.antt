-- Tables that are lists of ranges of characters: which characters such a list has in a set, and which lists are tables.
-- Assumes nothing.
use Rattle.std.specs.Prelude.{◌≡◌, ℕ, ◌+◌, ◌≤◌, Bool, true, false, ◌&&◌, ◌||◌, List, [], ◌∷◌, length, nat_le}
use Rattle.chars.specs.declared.ranges.Range.{Range}
use Rattle.chars.specs.Tables.{Lawful}
use Rattle.chars.specs.Utf8.{within}

-- the three sets that a range may be in
abbrev pub starting : Range → Bool
starting r = r.start

abbrev pub continuing : Range → Bool
continuing r = r.continues

abbrev pub showing : Range → Bool
showing r = r.shown

-- c is one of the range's characters
abbrev pub holds : Range → ℕ → Bool
holds r c = within r.first r.last c

-- c is in the set: some range that is in it holds c
abbrev pub in_set : (Range → Bool) → List Range → ℕ → Bool
in_set p [] c = false
in_set p (r ∷ rs) c = (holds r c && p r) || in_set p rs c

-- A range of scalar values: not empty, at most 0x10FFFF, and no surrogate
abbrev pub whole : Range → Bool
whole r = nat_le r.first r.last && (nat_le r.last 0xD7FF || (nat_le 0xE000 r.first && nat_le r.last 0x10FFFF))

-- in order and apart: each range begins behind the last character of the one before, the first at lo or behind it
abbrev pub ordered : ℕ → List Range → Bool
ordered lo [] = true
ordered lo (r ∷ rs) = nat_le lo r.first && (whole r && ordered (r.last + 1) rs)

-- The lists that are tables: short enough, of scalar values alone, in order and apart, and with sets that keep the laws of tables
pub record IsTable (rs : List Range) : Type 0 where
  pub few : length rs ≤ 4096
  pub in_order : ordered 0 rs ≡ true
  pub lawful : Lawful (in_set starting rs) (in_set continuing rs) (in_set showing rs)
