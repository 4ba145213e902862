use Rattle.std.proofs.Common.{◌≡◌, [], ◌∷◌, map, subst, rules}
use Rattle.output.specs.Usable.{usable}
use Rattle.inputs.specs.Lines.{no_line, next_line}
use Rattle.batch_names.specs.Tally.{outcome, Sums}
use Rattle.batch_names.proofs.rows.print_all.Goals as goal

pub loop-i-init : goal.loop-i-init
loop-i-init g c =
    ([], rw (c.into_iter-i-iterator.ensures.into_iter_gives, c.enumerate-i-items.ensures.source, c.new.ensures) no_line, c.new-summary.ensures)

pub loop-i-preserved : goal.loop-i-preserved
loop-i-preserved g c =
    let i = c.loop-i.invariant in
    let given = c.in-Some.ensures.steps.0 in
    let outcome_of = outcome (g.T.CharTable.starts c.args.table.now) (g.T.CharTable.continues c.args.table.now) (g.T.CharTable.shown c.args.table.now) (usable c.args.memory.now) in
    let e : c.in_ok-print_row.field-0 ≡ outcome_of c.in-Some.line.now = search (rules, c.in_ok-print_row.ensures, c.loop-i.auto.memory) in
    (c.in-Some.line.now ∷ i.0, next_line i.1 given.0 given.1, subst (λ o. Sums (o ∷ map outcome_of i.0) c.add.new.self) e (c.add.ensures _ i.2))
