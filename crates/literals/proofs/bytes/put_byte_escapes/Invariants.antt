use Rattle.std.proofs.Common.{Bool, drop}
use Rattle.std.specs.List.{flat_map}
use Rattle.output.specs.Puts.{Puts}
use Rattle.literals.specs.Bytes.{byte_escape}
use Rattle.literals.proofs.bytes.put_byte_escapes.Given as goal

-- whoever puts the escapes of the rest has put all
abbrev pub invariant-loop-b : goal.invariant-loop-b
invariant-loop-b g l =
    (r : Bool) (o : g.row.O.Denot)
    → Puts g.O.Output.room g.O.Output.took l.out (flat_map byte_escape (drop l.b-index l.bytes)) r o
    → Puts g.O.Output.room g.O.Output.took l.initial.out (flat_map byte_escape l.bytes) r o
