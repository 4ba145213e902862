use Rattle.std.proofs.Common.{replicate, ap}
use Rattle.output.proofs.Pieces.{puts_as, puts_then, puts_stop, puts_exit}
use Rattle.words.specs.RawText.{hash}
use Rattle.words.proofs.raw.put_fenced.Goals as goal

pub returns-in_err-put_hashes : goal.returns-in_err-put_hashes
returns-in_err-put_hashes g c =
    puts_exit _ c.from_residual-in_err-put_hashes.ensures.0
    (puts_then g.met.O.Output.adds c.in_ok-put.ensures.puts
    (puts_stop _ (puts_as (ap (λ n. replicate n hash) c.count_hashes-inside.ensures) c.in_err-put_hashes.ensures)))

pub returns-in_err-put_quoted : goal.returns-in_err-put_quoted
returns-in_err-put_quoted g c =
    puts_exit _ c.from_residual-in_err-put_quoted.ensures.0
    (puts_then g.met.O.Output.adds c.in_ok-put.ensures.puts
    (puts_then g.met.O.Output.adds (puts_as (ap (λ n. replicate n hash) c.count_hashes-inside.ensures) c.in_ok-put_hashes.ensures)
    (puts_stop _ c.in_err-put_quoted.ensures)))

pub returns-in_err-put-2 : goal.returns-in_err-put-2
returns-in_err-put-2 g c =
    puts_exit _ c.from_residual-in_err-put-2.ensures.0
    (puts_then g.met.O.Output.adds c.in_ok-put.ensures.puts
    (puts_then g.met.O.Output.adds (puts_as (ap (λ n. replicate n hash) c.count_hashes-inside.ensures) c.in_ok-put_hashes.ensures)
    (puts_then g.met.O.Output.adds c.in_ok-put_quoted.ensures
    (puts_stop _ c.in_err-put-2.ensures.puts))))

pub returns : goal.returns
returns g c =
    puts_then g.met.O.Output.adds c.in_ok-put.ensures.puts
    (puts_then g.met.O.Output.adds (puts_as (ap (λ n. replicate n hash) c.count_hashes-inside.ensures) c.in_ok-put_hashes.ensures)
    (puts_then g.met.O.Output.adds c.in_ok-put_quoted.ensures
    (puts_then g.met.O.Output.adds c.in_ok-put-2.ensures.puts
    (puts_as (ap (λ n. replicate n hash) c.count_hashes-inside.ensures) c.put_hashes-2.ensures))))
