use Rattle.std.proofs.Common.{rules}
use Rattle.words.proofs.Measured.{refusal_is, shown_refused, written_whole}
use Rattle.replay.specs.Values.{value_refusal}
use Rattle.replay.proofs.value.shown_value.Goals as goal

pub returns-in_err-put_value : goal.returns-in_err-put_value
returns-in_err-put_value g c =
    let o = value_refusal (g.T.CharTable.starts c.args.table.now) (g.T.CharTable.continues c.args.table.now) (g.T.CharTable.shown c.args.table.now) c.args.settings c.args.value.now in
    shown_refused _ _ _ _ c.from_residual.ensures.1 (refusal_is o _ c.new-buffer.ensures.space c.in_err-put_value.ensures)

pub returns : goal.returns
returns g c =
    let o = value_refusal (g.T.CharTable.starts c.args.table.now) (g.T.CharTable.continues c.args.table.now) (g.T.CharTable.shown c.args.table.now) c.args.settings c.args.value.now in
    let w = written_whole o _ c.new-buffer.ensures.space c.new-buffer.ensures.text c.in_ok-put_value.ensures in
    (w.0, search (rules, w.1))
