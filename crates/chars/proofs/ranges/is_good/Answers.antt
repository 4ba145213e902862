use Rattle.std.proofs.Common.{true, false, sym, ◌∙◌}
use Rattle.std.proofs.lemmas.List.{at_drop_all}
use Rattle.chars.specs.RangeChecks.{good_from}
use Rattle.chars.proofs.Checking.{turn}
use Rattle.chars.proofs.ranges.is_good.Goals as goal

pub returns-then-not-is_fit : goal.returns-then-not-is_fit
returns-then-not-is_fit c =
    turn c.args.ranges.now c.loop-r.r-index c.loop-r.from _ false _ c.loop-r-test.true c.loop-r.invariant c.if-not-is_fit.ensures

pub loop-r-preserved : goal.loop-r-preserved
loop-r-preserved c =
    turn c.args.ranges.now c.loop-r.r-index c.loop-r.from _ true _ c.loop-r-test.true c.loop-r.invariant c.if-not-is_fit.ensures

pub returns : goal.returns
unfolding good_from
returns c =
    let rs = c.args.ranges.now in
    c.is_gap.ensures ∙ sym (at_drop_all (good_from c.loop-r.from) rs c.loop-r.r-index c.loop-r-test.false) ∙ c.loop-r.invariant
