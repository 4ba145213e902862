use Rattle.words.proofs.Writing.{exits, writes_refused, writes_behind}
use Rattle.words.specs.Refusals.{name_refusal}
use Rattle.replay.proofs.value.put_unit_variant.Goals as goal

pub returns-in_err-validate_identifier : goal.returns-in_err-validate_identifier
returns-in_err-validate_identifier g c =
    writes_refused (name_refusal (g.T.CharTable.continues c.args.table.now) c.args.name.now) _ c.in_err-validate_identifier.ensures (exits _ _ c.from_residual.ensures.1)

pub returns : goal.returns
returns g c =
    writes_behind (name_refusal (g.T.CharTable.continues c.args.table.now) c.args.name.now) _ c.in_ok-validate_identifier.ensures c.write_identifier.ensures
