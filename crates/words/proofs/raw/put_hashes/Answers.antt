use Rattle.std.proofs.Common.{arith}
use Rattle.output.proofs.Pieces.{puts_as, puts_then}
use Rattle.words.proofs.Hashes.{hashes_next}
use Rattle.words.proofs.raw.put_hashes.Goals as goal

pub loop-preserved : goal.loop-preserved
loop-preserved g c =
    λ r b p. c.loop.invariant r b (puts_as (hashes_next c.args.n c.loop.counter (omega arith)) (puts_then g.met.O.Output.adds c.in_ok-put.ensures.puts p))
