-- A character table as text. A line is a range: its first and its last character in hexadecimal, and the letters of its sets, s for
-- start, c for continue and h for shown, in this order; the three are parted by a space. Assumes nothing.
use Rattle.std.specs.Prelude.{◌≡◌, ℕ, ◌<◌, cond, List, [], ◌∷◌, ◌++◌, length, Some, None, Option, ◌==◌}
use Rattle.chars.specs.declared.ranges.Range.{Range}
use Rattle.inputs.specs.Fields.{before, behind, led, past}
use Rattle.inputs.specs.Hex.{hex_number}
use Rattle.inputs.specs.Lines.{Cut}

-- the range between two numbers, if both are there, with the sets of these letters and no other letter
abbrev pub range_of : Option ℕ → Option ℕ → List ℕ → Option Range
range_of (Some a) (Some b) sets =
    cond (length (past 0x68 (past 0x63 (past 0x73 sets))) == 0)
    (Some (record { first = a; last = b; start = led 0x73 sets; continues = led 0x63 (past 0x73 sets); shown = led 0x68 (past 0x63 (past 0x73 sets)) }))
    None
range_of (Some a) None sets = None
range_of None b sets = None

abbrev pub range_line : List ℕ → Option Range
range_line s = range_of (hex_number (before 0x20 s)) (hex_number (before 0x20 (behind 0x20 s))) (behind 0x20 (behind 0x20 s))

-- the ranges of the lines that were read of some bytes, in their order, and what is left
pub data RangesRead (s : List ℕ) : List Range → List ℕ → Type 0 where
  no_range : RangesRead s [] s
  next_range : {rs : List Range} {left line rest : List ℕ} {r : Range} → RangesRead s rs left → 0 < length left → Cut left line rest → range_line line ≡ Some r → RangesRead s (rs ++ r ∷ []) rest
