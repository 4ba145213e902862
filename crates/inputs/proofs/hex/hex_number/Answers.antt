use Rattle.std.proofs.Common.{◌≡◌, None, Some, ◌*◌, ◌+◌, get_or, drop, sym, ◌∙◌, arith, rules}
use Rattle.inputs.specs.Hex.{digit_value}
use Rattle.inputs.proofs.Cuts.{not_empty}
use Rattle.inputs.proofs.Numbers.{number_more, too_large, number_all, some_digits}
use Rattle.inputs.proofs.hex.hex_number.Goals as goal

pub returns-in_err-checked_mul : goal.returns-in_err-checked_mul
returns-in_err-checked_mul c =
    let s = c.args.digits.now in
    let i = c.loop-b.b-index in
    let n = c.loop-b.n in
    let d = c.in_ok-digit.digit in
    let none : c.from_residual-in_err-checked_mul.result ≡ None = search rules in
    let digit : digit_value (get_or s i 0) ≡ Some d = search rules in
    let h = c.in_err-checked_mul.ensures in
    none ∙ sym (too_large (n * 16 + d) (drop (i + 1) s) (omega (arith, h))) ∙ sym (number_more s i n c.loop-b-test.true d digit) ∙ c.loop-b.invariant.read ∙ some_digits s (not_empty s c.if-is_empty.ensures)

pub returns : goal.returns
returns c =
    let s = c.args.digits.now in
    sym (number_all s c.loop-b.b-index c.loop-b.n c.loop-b-test.false c.loop-b.invariant.fits) ∙ c.loop-b.invariant.read ∙ some_digits s (not_empty s c.if-is_empty.ensures)
