use Rattle.output.proofs.Pieces.{puts_then}
use Rattle.words.proofs.raw.put_quoted.Goals as goal

pub returns : goal.returns
returns g c =
    puts_then g.met.O.Output.adds c.in_ok-put.ensures.puts
    (puts_then g.met.O.Output.adds c.in_ok-put-2.ensures.puts c.put-3.ensures.puts)
