use Rattle.std.proofs.Common.{rules, tests}
use Rattle.std.proofs.lemmas.Iterator.Consumers.{YieldsList-from_first}
use Rattle.std.proofs.lemmas.Iterator.Search.{all_from_yields_List}
use Rattle.chars.specs.Texts.{characters}
use Rattle.words.specs.Classes.{in_class}
use Rattle.words.proofs.class.is_all_of.Goals as goal

pub returns : goal.returns
returns g c =
    all_from_yields_List (in_class (g.T.CharTable.continues c.args.table.now) (g.T.CharTable.shown c.args.table.now) c.args.class) _ _ _ c.all.ensures.ran
    (YieldsList-from_first (λ x. x) (λ cs. cs) (characters c.args.text) c.chars.ensures)
    (λ x b q k. search (rules, tests))
