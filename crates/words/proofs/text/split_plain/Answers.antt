use Rattle.words.proofs.Runs.{plain_more}
use Rattle.words.proofs.text.split_plain.Goals as goal

pub loop-c-preserved : goal.loop-c-preserved
loop-c-preserved g c = plain_more (g.T.CharTable.shown c.args.table.now) c.in-Some.ensures.value.1 c.in-Some.ensures.value.2 c.in-Plain.ensures c.loop-c.invariant
