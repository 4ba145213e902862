use Rattle.std.proofs.Common.{rules}
use Rattle.batch_names.proofs.BackAgain.{written_back}
use Rattle.batch_names.proofs.forms.shown_forms.Goals as goal

pub returns-clause-back : goal.returns-clause-back
returns-clause-back g c =
    written_back _ _ _ c.literals_read_back.ensures c.no_text_has_two_readings.ensures c.args.name.now _ _ c.in_ok-write_forms.ensures.value (search rules)
