use Rattle.std.proofs.Common.{◌≡◌, ℕ, ◌<◌, ◌≤◌, true}
use Rattle.chars.specs.RangeChecks.{agreeing}
use Rattle.chars.proofs.ranges.Range.is_classed.Given as goal

-- the characters so far agree
abbrev pub invariant-loop-c : goal.invariant-loop-c
invariant-loop-c l = (k : ℕ) → l.self.first ≤ k → k < l.c → agreeing l.self k ≡ true
