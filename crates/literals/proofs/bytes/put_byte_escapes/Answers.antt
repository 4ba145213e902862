use Rattle.std.proofs.Common.{sym}
use Rattle.std.specs.List.{flat_map}
use Rattle.std.proofs.lemmas.List.{at_drop_more, at_drop_all}
use Rattle.output.proofs.Pieces.{puts_as, puts_then, puts_stop, puts_exit, puts_none}
use Rattle.literals.specs.Bytes.{byte_escape}
use Rattle.literals.proofs.bytes.put_byte_escapes.Goals as goal

pub returns-in_err-put_byte : goal.returns-in_err-put_byte
returns-in_err-put_byte g c =
    puts_exit _ c.from_residual.ensures.0
    (c.loop-b.invariant _ _ (puts_as (sym (at_drop_more (flat_map byte_escape) c.args.bytes.now c.loop-b.b-index 0 c.loop-b-test.true)) (puts_stop _ c.in_err-put_byte.ensures)))

pub loop-b-preserved : goal.loop-b-preserved
loop-b-preserved g c =
    λ r o p. c.loop-b.invariant r o (puts_as (sym (at_drop_more (flat_map byte_escape) c.args.bytes.now c.loop-b.b-index 0 c.loop-b-test.true)) (puts_then g.met.O.Output.adds c.in_ok-put_byte.ensures p))

pub returns : goal.returns
returns g c =
    c.loop-b.invariant _ _ (puts_as (sym (at_drop_all (flat_map byte_escape) c.args.bytes.now c.loop-b.b-index c.loop-b-test.false)) (puts_none g.met.O.Output.adds))
