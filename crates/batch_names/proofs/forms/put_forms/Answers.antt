use Rattle.std.proofs.Common.{refl}
use Rattle.words.proofs.Writing.{writes_then, writes_stop, writes_short, exits}
use Rattle.words.specs.Refusals.{text_refusal}
use Rattle.batch_names.proofs.InTurn.{writes_next, line_then}
use Rattle.batch_names.proofs.forms.put_forms.Goals as goal

pub returns-in_err-serialize_escaped_str : goal.returns-in_err-serialize_escaped_str
returns-in_err-serialize_escaped_str g c =
    writes_stop _ (exits _ _ c.from_residual.ensures.1) c.in_err-serialize_escaped_str.ensures

pub returns-in_err-serialize_unescaped_or_raw_str : goal.returns-in_err-serialize_unescaped_or_raw_str
returns-in_err-serialize_unescaped_or_raw_str g c =
    let w = c.in_ok-serialize_escaped_str.ensures in
    line_then g.met.O.Output.adds w c.in_ok-put.ensures.puts
    (writes_stop _ (exits _ _ c.from_residual-in_err-serialize_unescaped_or_raw_str.ensures.1) (writes_next (text_refusal c.args.name.now) w c.in_err-serialize_unescaped_or_raw_str.ensures))

pub returns-in_err-put-2 : goal.returns-in_err-put-2
returns-in_err-put-2 g c =
    let w = c.in_ok-serialize_escaped_str.ensures in
    line_then g.met.O.Output.adds w c.in_ok-put.ensures.puts
    (writes_then g.met.O.Output.adds (writes_next (text_refusal c.args.name.now) w c.in_ok-serialize_unescaped_or_raw_str.ensures)
    (writes_stop _ (exits _ _ c.from_residual-in_err-put-2.ensures.1) (writes_short refl c.in_err-put-2.ensures.puts)))

pub returns : goal.returns
returns g c =
    let w = c.in_ok-serialize_escaped_str.ensures in
    line_then g.met.O.Output.adds w c.in_ok-put.ensures.puts
    (line_then g.met.O.Output.adds (writes_next (text_refusal c.args.name.now) w c.in_ok-serialize_unescaped_or_raw_str.ensures) c.in_ok-put-2.ensures.puts c.put_name_line.ensures)
