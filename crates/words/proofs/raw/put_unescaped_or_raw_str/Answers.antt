use Rattle.output.proofs.Pieces.{puts_as, puts_then}
use Rattle.words.proofs.Hashes.{raw_is, quoted_is}
use Rattle.words.proofs.raw.put_unescaped_or_raw_str.Goals as goal

pub returns-in_ok-put : goal.returns-in_ok-put
returns-in_ok-put g c =
    puts_as (raw_is c.args.text _ c.as_bytes-bytes.ensures c.if-has_quote.ensures) (puts_then g.met.O.Output.adds c.in_ok-put.ensures.puts c.put_fenced.ensures)

pub returns-else-has_quote : goal.returns-else-has_quote
returns-else-has_quote g c = puts_as (quoted_is c.args.text _ c.as_bytes-bytes.ensures c.if-has_quote.ensures) c.put_quoted.ensures
