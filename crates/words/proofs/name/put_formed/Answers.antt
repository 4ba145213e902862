use Rattle.std.proofs.Common.{sym, ap}
use Rattle.output.proofs.Pieces.{puts_as, puts_then}
use Rattle.words.specs.Names.{formed}
use Rattle.words.proofs.name.put_formed.Goals as goal

pub returns-in_ok-put-in-Raw : goal.returns-in_ok-put-in-Raw
returns-in_ok-put-in-Raw g c =
    puts_as (ap (λ f. formed f c.args.name.now) (sym c.in-Raw.is)) (puts_then g.met.O.Output.adds c.in_ok-put-in-Raw.ensures.puts c.put-in-Raw-2.ensures.puts)
