use Rattle.std.proofs.Common.{◌≤◌, length}
use Rattle.chars.proofs.Finding.{Left}
use Rattle.chars.proofs.ranges.Ranges.find.Given as goal

abbrev pub invariant-loop-left : goal.invariant-loop-left
invariant-loop-left l = Left l.left l.self.ranges.now l.c × (length l.left ≤ length l.self.ranges.now)

abbrev pub decreases-loop-left : goal.decreases-loop-left
decreases-loop-left l = length l.left
