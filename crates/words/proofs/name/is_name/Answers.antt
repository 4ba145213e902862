use Rattle.std.proofs.Common.{not, sym, ap, ◌∙◌, rules}
use Rattle.words.proofs.Naming.{name_none, name_some}
use Rattle.words.proofs.name.is_name.Goals as goal

pub returns-then-not-is_empty : goal.returns-then-not-is_empty
returns-then-not-is_empty g c = c.is_all_of.ensures ∙ name_some (g.T.CharTable.continues c.args.table.now) c.args.text (search rules)

pub returns-else-not-is_empty : goal.returns-else-not-is_empty
returns-else-not-is_empty g c = ap not c.if-not-is_empty.false ∙ sym (name_none (g.T.CharTable.continues c.args.table.now) c.args.text (search rules))
