use Rattle.output.proofs.Pieces.{puts_then}
use Rattle.literals.proofs.float.put_float.Goals as goal

pub returns : goal.returns
returns g c = puts_then g.met.O.Output.adds c.in_ok-put.ensures.puts c.put_suffix.ensures
