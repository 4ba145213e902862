use Rattle.grammar.proofs.Worked.{worked}
use Rattle.grammar.proofs.worked_readings.Goals as goal

pub returns : goal.returns
returns g c = worked (g.met.T.CharTable.lawful c.args.table.now)
