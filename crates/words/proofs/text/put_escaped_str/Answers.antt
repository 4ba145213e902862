use Rattle.output.proofs.Pieces.{puts_then, puts_stop, puts_exit}
use Rattle.words.proofs.text.put_escaped_str.Goals as goal

pub returns-in_err-put_escapes : goal.returns-in_err-put_escapes
returns-in_err-put_escapes g c =
    puts_exit _ c.from_residual-in_err-put_escapes.ensures.0
    (puts_then g.met.O.Output.adds c.in_ok-put.ensures.puts (puts_stop _ c.in_err-put_escapes.ensures))

pub returns : goal.returns
returns g c =
    puts_then g.met.O.Output.adds c.in_ok-put.ensures.puts
    (puts_then g.met.O.Output.adds c.in_ok-put_escapes.ensures c.put-2.ensures.puts)
