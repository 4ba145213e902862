use Rattle.std.proofs.Common.{sym}
use Rattle.output.proofs.Pieces.{puts_as, puts_stop, puts_exit}
use Rattle.words.proofs.Runs.{escape_stops, escape_goes}
use Rattle.words.proofs.text.put_escapes.Goals as goal

pub returns-in_err-put : goal.returns-in_err-put
returns-in_err-put g c =
    puts_exit _ c.from_residual.ensures.0 (c.loop-after.invariant _ _ (puts_as (sym c.split_plain.ensures.parts) (puts_stop _ c.in_err-put.ensures.puts)))

pub returns-in_err-put_escape : goal.returns-in_err-put_escape
returns-in_err-put_escape g c =
    puts_exit _ c.from_residual-in_err-put_escape.ensures.0
    (c.loop-after.invariant _ _
    (escape_stops (g.T.CharTable.shown c.args.table.now) _ c.split_plain.ensures.parts c.in-Some.ensures.value.2 c.escape_of.ensures g.met.O.Output.adds c.in_ok-put.ensures.puts c.in_err-put_escape.ensures))

pub loop-after-preserved : goal.loop-after-preserved
loop-after-preserved g c =
    λ r b h. c.loop-after.invariant r b
    (escape_goes (g.T.CharTable.shown c.args.table.now) _ c.split_plain.ensures.parts c.in-Some.ensures.value.2 c.escape_of.ensures g.met.O.Output.adds c.in_ok-put.ensures.puts c.in_ok-put_escape.ensures h)
