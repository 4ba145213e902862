use Rattle.grammar.proofs.ReadBack.{literals_back}
use Rattle.grammar.proofs.read_back.literals_read_back.Goals as goal

pub returns : goal.returns
returns g c = literals_back (g.met.T.CharTable.lawful c.args.table.now)
