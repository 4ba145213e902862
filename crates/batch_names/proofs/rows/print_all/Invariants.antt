use Rattle.std.proofs.Common.{ℕ, List, map}
use Rattle.output.specs.Usable.{usable}
use Rattle.std.specs.Iterator.Adapters.{enumerate_source}
use Rattle.inputs.specs.Lines.{LinesRead}
use Rattle.batch_names.specs.Tally.{outcome, Sums}
use Rattle.batch_names.proofs.rows.print_all.Given as goal

abbrev pub invariant-loop-i : goal.invariant-loop-i
invariant-loop-i g l =
    (lines : List (List ℕ))
    × LinesRead l.input lines (enumerate_source l.i-iterator)
    × Sums (map (outcome (g.T.CharTable.starts l.table) (g.T.CharTable.continues l.table) (g.T.CharTable.shown l.table) (usable l.initial.memory)) lines) l.summary
