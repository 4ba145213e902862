use Rattle.output.proofs.Pieces.{puts_then, puts_stop, puts_exit}
use Rattle.literals.proofs.character.put_char.Goals as goal

pub returns-in_err-put_char_body : goal.returns-in_err-put_char_body
returns-in_err-put_char_body g c =
    puts_exit _ c.from_residual-in_err-put_char_body.ensures.0
    (puts_then g.met.O.Output.adds c.in_ok-put.ensures.puts (puts_stop _ c.in_err-put_char_body.ensures))

pub returns : goal.returns
returns g c =
    puts_then g.met.O.Output.adds c.in_ok-put.ensures.puts
    (puts_then g.met.O.Output.adds c.in_ok-put_char_body.ensures c.put-2.ensures.puts)
