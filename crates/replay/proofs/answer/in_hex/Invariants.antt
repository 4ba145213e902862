use Rattle.std.proofs.Common.{◌≡◌, take, vec_items}
use Rattle.literals.specs.Bytes.{digit_pair}
use Rattle.std.specs.List.{flat_map}
use Rattle.replay.proofs.answer.in_hex.Given as goal

abbrev pub invariant-loop-b : goal.invariant-loop-b
invariant-loop-b l = vec_items l.digits ≡ flat_map digit_pair (take l.b-index l.bytes)
