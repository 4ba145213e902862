use Rattle.grammar.proofs.Unique.{unique}
use Rattle.grammar.proofs.no_text_has_two_readings.Goals as goal

pub returns : goal.returns
returns g c = unique (g.met.T.CharTable.lawful c.args.table.now)
