use Rattle.std.proofs.Common.{ap}
use Rattle.output.proofs.Pieces.{puts_as, puts_then, puts_stop, puts_exit}
use Rattle.words.specs.Numerals.{numeral}
use Rattle.words.proofs.text.put_code.Goals as goal

pub returns-in_err-put_numeral : goal.returns-in_err-put_numeral
returns-in_err-put_numeral g c =
    puts_exit _ c.from_residual-in_err-put_numeral.ensures.0
    (puts_then g.met.O.Output.adds c.in_ok-put.ensures.puts
    (puts_stop _ (puts_as (ap (numeral 16) c.from.ensures) c.in_err-put_numeral.ensures)))

pub returns : goal.returns
returns g c =
    puts_then g.met.O.Output.adds c.in_ok-put.ensures.puts
    (puts_then g.met.O.Output.adds (puts_as (ap (numeral 16) c.from.ensures) c.in_ok-put_numeral.ensures) c.put-2.ensures.puts)
