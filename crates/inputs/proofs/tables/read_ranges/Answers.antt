use Rattle.std.proofs.Common.{sym}
use Rattle.inputs.specs.TableLines.{no_range, next_range}
use Rattle.inputs.proofs.tables.read_ranges.Goals as goal

pub loop-i-init : goal.loop-i-init
loop-i-init c =
    rw (c.new-ranges.ensures.items, c.into_iter-i-iterator.ensures.into_iter_gives, c.enumerate-i-items.ensures.source, c.new.ensures) no_range

pub loop-i-preserved : goal.loop-i-preserved
loop-i-preserved c =
    let given = c.in-Some.ensures.steps.0 in
    rw c.in_ok-push.ensures.items (next_range c.loop-i.invariant given.0 given.1 (sym c.in-Some-range_of_line.ensures))
