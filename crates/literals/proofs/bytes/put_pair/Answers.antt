use Rattle.output.proofs.Pieces.{puts_as, puts_then}
use Rattle.literals.proofs.bytes.put_pair.Goals as goal

pub returns : goal.returns
returns g c = puts_then g.met.O.Output.adds c.in_ok-put.ensures.puts (puts_as c.hex_pair.ensures c.put-2.ensures.puts)
