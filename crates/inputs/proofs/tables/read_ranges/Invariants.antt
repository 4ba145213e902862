use Rattle.std.proofs.Common.{vec_items}
use Rattle.std.specs.Iterator.Adapters.{enumerate_source}
use Rattle.inputs.specs.TableLines.{RangesRead}
use Rattle.inputs.proofs.tables.read_ranges.Given as goal

abbrev pub invariant-loop-i : goal.invariant-loop-i
invariant-loop-i l = RangesRead l.text (vec_items l.ranges) (enumerate_source l.i-iterator)
