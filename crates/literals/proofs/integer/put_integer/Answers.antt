use Rattle.std.proofs.Common.{ap}
use Rattle.output.proofs.Pieces.{puts_as, puts_then, puts_stop, puts_exit, puts_ends}
use Rattle.words.specs.Numerals.{numeral}
use Rattle.literals.specs.Integers.{sign}
use Rattle.literals.proofs.Suffixes.{suffix_chosen}
use Rattle.literals.proofs.integer.put_integer.Goals as goal

pub returns-in_err-put_sign : goal.returns-in_err-put_sign
returns-in_err-put_sign g c =
    puts_ends _ _ c.from_residual.ensures.0 (puts_as (ap sign c.is_negative.ensures) c.in_err-put_sign.ensures)

pub returns-in_err-put_decimal : goal.returns-in_err-put_decimal
returns-in_err-put_decimal g c =
    puts_exit _ c.from_residual-in_err-put_decimal.ensures.0
    (puts_then g.met.O.Output.adds (puts_as (ap sign c.is_negative.ensures) c.in_ok-put_sign.ensures)
    (puts_stop _ (puts_as (ap (numeral 10) c.magnitude.ensures) c.in_err-put_decimal.ensures)))

pub returns : goal.returns
returns g c =
    puts_then g.met.O.Output.adds (puts_as (ap sign c.is_negative.ensures) c.in_ok-put_sign.ensures)
    (puts_then g.met.O.Output.adds (puts_as (ap (numeral 10) c.magnitude.ensures) c.in_ok-put_decimal.ensures)
    (puts_as (suffix_chosen (λ s. s.now) c.args.number_suffixes c.suffix.result c.then_some.ensures c.suffix.ensures) c.put_suffix.ensures))
