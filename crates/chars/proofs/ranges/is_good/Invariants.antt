use Rattle.std.proofs.Common.{◌≡◌, drop}
use Rattle.chars.specs.RangeChecks.{good_from, good}
use Rattle.chars.proofs.ranges.is_good.Given as goal

-- what is left decides
abbrev pub invariant-loop-r : goal.invariant-loop-r
invariant-loop-r l = good_from l.from (drop l.r-index l.ranges) ≡ good l.ranges
