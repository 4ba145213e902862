use Rattle.chars.proofs.Decoding.{decode_exact, decode_encodes, encodes_once}
use Rattle.chars.proofs.utf8.decoding_is_exact.Goals as goal

pub returns : goal.returns
returns c = (decode_exact, decode_encodes, encodes_once)
