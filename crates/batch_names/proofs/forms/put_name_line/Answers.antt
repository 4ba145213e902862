use Rattle.output.proofs.Pieces.{puts_as, puts_none}
use Rattle.words.proofs.Writing.{writes_plain, writes_then, writes_stop, writes_bytes, writes_short, exits}
use Rattle.batch_names.proofs.InTurn.{writes_line, left_out, not_left_out}
use Rattle.batch_names.proofs.forms.put_name_line.Goals as goal

pub returns-then-is_err : goal.returns-then-is_err
returns-then-is_err g c =
    writes_bytes (puts_as (left_out _ _ _ c.validate_identifier.ensures c.if-is_err.ensures.value) (puts_none g.met.O.Output.adds))

pub returns-in_err-write_identifier : goal.returns-in_err-write_identifier
returns-in_err-write_identifier g c =
    let n = not_left_out _ _ c.validate_identifier.ensures c.if-is_err.ensures.value in
    writes_line _ n (writes_stop _ (exits _ _ c.from_residual.ensures.1) (writes_plain n c.in_err-write_identifier.ensures))

pub returns-in_err-put : goal.returns-in_err-put
returns-in_err-put g c =
    let n = not_left_out _ _ c.validate_identifier.ensures c.if-is_err.ensures.value in
    writes_line _ n (writes_then g.met.O.Output.adds (writes_plain n c.in_ok-write_identifier.ensures) (writes_short (exits _ _ c.from_residual-in_err-put.ensures.1) c.in_err-put.ensures.puts))

pub returns : goal.returns
returns g c =
    let n = not_left_out _ _ c.validate_identifier.ensures c.if-is_err.ensures.value in
    writes_line _ n (writes_then g.met.O.Output.adds (writes_plain n c.in_ok-write_identifier.ensures) (writes_bytes c.in_ok-put.ensures.puts))
