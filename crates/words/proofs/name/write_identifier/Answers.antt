use Rattle.output.proofs.Pieces.{puts_as}
use Rattle.words.proofs.Naming.{written_name}
use Rattle.words.proofs.Writing.{writes_accepted, writes_bytes, writes_short, exits}
use Rattle.words.proofs.name.write_identifier.Goals as goal

pub returns-in_err-put_formed : goal.returns-in_err-put_formed
returns-in_err-put_formed g c =
    let n = written_name (g.T.CharTable.starts c.args.table.now) (g.T.CharTable.continues c.args.table.now) c.args.name.now _ c.in_ok-form.ensures in
    writes_accepted n.0 (writes_short (exits _ _ c.from_residual-in_err-put_formed.ensures.1) (puts_as (cc n.1) c.in_err-put_formed.ensures))

pub returns : goal.returns
returns g c =
    let n = written_name (g.T.CharTable.starts c.args.table.now) (g.T.CharTable.continues c.args.table.now) c.args.name.now _ c.in_ok-form.ensures in
    writes_accepted n.0 (writes_bytes (puts_as (cc n.1) c.in_ok-put_formed.ensures))
