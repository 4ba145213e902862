use Rattle.std.proofs.Common.{◌<◌, rules}
use Rattle.literals.proofs.Pairs.{pairs, pair_right}
use Rattle.literals.proofs.bytes.hex_pair.Goals as goal

pub returns : goal.returns
unfolding pairs
returns c = let byte : c.args.b < 256 = search rules in pair_right c.args.b byte
