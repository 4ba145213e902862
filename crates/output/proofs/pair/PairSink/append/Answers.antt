-- Where the second memory has text, the first is full and takes none of the bytes.
use Rattle.std.proofs.Common.{arith}
use Rattle.std.proofs.lemmas.List.{nil_from_length}
use Rattle.std.proofs.lemmas.Grind.{common_steps}
use Rattle.output.specs.Buffers.{buffer_text}
use Rattle.output.proofs.pair.PairSink.append.Goals as goal

pub returns-clause-text : goal.returns-clause-text
returns-clause-text c =
    let p = c.args.self.now in
    let full = p.in_turn in
    grind (arith, common_steps, nil_from_length (buffer_text p.second), nil_from_length c.split_at.result.0.now)
