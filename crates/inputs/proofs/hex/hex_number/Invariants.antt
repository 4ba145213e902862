use Rattle.std.proofs.Common.{◌≡◌, ◌^◌, ◌<◌, drop}
use Rattle.inputs.proofs.Numbers.{read_from}
use Rattle.inputs.proofs.hex.hex_number.Given as goal

abbrev pub invariant-loop-b : goal.invariant-loop-b
invariant-loop-b l = record { fits : l.n < 2 ^ 32; read : read_from l.n (drop l.b-index l.digits) ≡ read_from 0 l.digits }
