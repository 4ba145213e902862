use Rattle.std.proofs.Common.{◌+◌, max, sym, ap, ◌∙◌, subst₂, arith}
use Rattle.words.proofs.Hashes.{Counted, counted_none, counted_hash, counted_other, counted_all}
use Rattle.words.proofs.raw.count_hashes.Goals as goal
use Rattle.words.proofs.raw.count_hashes.Goals.{then-b-eq35, else-b-eq35}

pub loop-b-init : goal.loop-b-init
loop-b-init c = (omega arith, omega arith, counted_none c.args.text.now)

pub loop-b-preserved : goal.loop-b-preserved
loop-b-preserved c =
    let i = c.loop-b.invariant in
    let s = c.args.text.now in
    elim c.if-b-eq35.branch [
      | then-b-eq35 w ↦ (
        omega (arith, w.run-is),
        omega arith,
        subst₂ (Counted s (c.loop-b.b-index + 1)) (sym w.run-is) (sym (c.max-longest.ensures ∙ ap (max c.loop-b.longest) w.run-is))
            (counted_hash s c.loop-b.b-index c.loop-b.run c.loop-b.longest c.loop-b-test.true w.if-b-eq35.true i.2),
      )
      | else-b-eq35 w ↦ (
        omega (arith, w.run-is),
        omega arith,
        subst₂ (Counted s (c.loop-b.b-index + 1)) (sym w.run-is) (sym (c.max-longest.ensures ∙ ap (max c.loop-b.longest) w.run-is))
            (counted_other s c.loop-b.b-index c.loop-b.run c.loop-b.longest c.loop-b-test.true i.1 w.if-b-eq35.false i.2),
      )
    ]

pub returns : goal.returns
returns c = counted_all c.args.text.now c.loop-b.b-index c.loop-b.run c.loop-b.longest c.loop-b-test.false c.loop-b.invariant.1 c.loop-b.invariant.2
