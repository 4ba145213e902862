use Rattle.std.proofs.Common.{◌+◌, ◌/◌, ◌≤◌, length, sym, refl, ap, ◌∙◌, subst, arith, length-drop, length-take}
use Rattle.std.proofs.lemmas.List.{take_rest}
use Rattle.std.proofs.lemmas.Bool.{eqb-true, eqb-false}
use Rattle.chars.specs.Ranges.{in_set}
use Rattle.chars.proofs.Finding.{Left, go_front, go_back, is_here, nowhere}
use Rattle.chars.proofs.ranges.Ranges.find.Goals as goal

pub loop-left-init : goal.loop-left-init
loop-left-init c = (record { from = 0; in_order = c.args.self.now.is_table.in_order; same = λ p. refl }, omega arith)

pub loop-left-preserved-then-c-r : goal.loop-left-preserved-then-c-r
loop-left-preserved-then-c-r c =
    let rs = c.loop-left.left.now in
    let n = eqb-false (length rs) 0 (sym c.loop-left-test.ensures) in
    let b = c.loop-left.invariant.1 in
    (go_front rs _ c.from-c.result (length rs / 2) _ c.loop-left.invariant.0 (omega arith) c.if-c-r.true, omega (arith, length-take (length rs / 2) rs))

pub loop-left-preserved : goal.loop-left-preserved
loop-left-preserved c =
    let rs = c.loop-left.left.now in
    let n = eqb-false (length rs) 0 (sym c.loop-left-test.ensures) in
    let b = c.loop-left.invariant.1 in
    let i = length rs / 2 + 1 in
    subst (λ s. Left s c.args.self.now.ranges.now c.from-c.result × (length s ≤ length c.args.self.now.ranges.now)) (sym (take_rest rs i))
    (go_back rs _ c.from-c.result (length rs / 2) _ c.loop-left.invariant.0 (omega arith) c.if-c-r.false c.if-r-c.true, omega (arith, length-drop i rs))

pub returns-else-r-c : goal.returns-else-r-c
returns-else-r-c c = λ p.
    let rs = c.loop-left.left.now in
    let n = eqb-false (length rs) 0 (sym c.loop-left-test.ensures) in
    ap (in_set p c.args.self.now.ranges.now) (sym c.from-c.ensures)
    ∙ is_here rs _ c.from-c.result (length rs / 2) _ c.loop-left.invariant.0 (omega arith) c.if-c-r.false c.if-r-c.false p

pub returns : goal.returns
returns c = λ p.
    ap (in_set p c.args.self.now.ranges.now) (sym c.from-c.ensures)
    ∙ nowhere _ _ c.from-c.result c.loop-left.invariant.0 (eqb-true _ 0 (sym c.loop-left-test.ensures)) p
