use Rattle.std.proofs.Common.{◌≡◌, length}
use Rattle.literals.specs.Floats.{past_digits}
use Rattle.literals.proofs.float.past_digits.Given as goal

abbrev pub invariant-loop-rest : goal.invariant-loop-rest
invariant-loop-rest l = past_digits l.rest ≡ past_digits l.s

abbrev pub decreases-loop-rest : goal.decreases-loop-rest
decreases-loop-rest l = length l.rest
