-- What is found of a list of ranges.
-- Assumes nothing.
use Rattle.std.specs.Prelude.{Bool, false, Some, None, Option}
use Rattle.chars.specs.declared.ranges.Range.{Range}

-- the range that was found is in the set
abbrev pub found : (Range → Bool) → Option Range → Bool
found p (Some r) = p r
found p None = false
