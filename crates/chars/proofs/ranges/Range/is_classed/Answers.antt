use Rattle.std.proofs.Common.{◌≡◌, ◌<◌, ◌≤◌, sym, ap, ◌∙◌, ⊎_elim, arith}
use Rattle.std.proofs.lemmas.Bool.{cases_Bool, both_ways, cases_lt}
use Rattle.chars.specs.RangeChecks.{agreeing, classed}
use Rattle.chars.proofs.Checking.{classed_tells, tells_classed}
use Rattle.chars.proofs.ranges.Range.is_classed.Goals as goal

pub returns-then-not-is_agreeing : goal.returns-then-not-is_agreeing
returns-then-not-is_agreeing c =
    let r = c.args.self in
    let k = c.loop-c.c in
    let l : k ≤ r.last = omega arith in
    let u : k < 0x80 = omega arith in
    let low : r.first ≤ k = omega arith in
    ⊎_elim
    (λ e. absurd (both_ways (agreeing r k) (sym c.if-not-is_agreeing.ensures) (classed_tells r e k low l u)))
    (λ e. sym e)
    (cases_Bool (classed r))

pub returns : goal.returns
returns c =
    let r = c.args.self in
    sym (tells_classed r (λ k l u v. c.loop-c.invariant k l (omega arith)))

pub returns-else-not-is_agreeing : goal.returns-else-not-is_agreeing
returns-else-not-is_agreeing c =
    let r = c.args.self in
    let at = c.loop-c.c in
    let here = sym c.if-not-is_agreeing.ensures in
    sym (tells_classed r (λ k l u v.
    ⊎_elim
    (λ b. c.loop-c.invariant k l b)
    (λ b. let e : k ≡ at = omega arith in ap (agreeing r) e ∙ here)
    (cases_lt k at)))
