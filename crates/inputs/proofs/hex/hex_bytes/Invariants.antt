use Rattle.std.proofs.Common.{◌≡◌, ◌++◌, drop, vec_items}
use Rattle.std.specs.Option.{option_map}
use Rattle.inputs.proofs.Numbers.{pair_bytes}
use Rattle.inputs.proofs.hex.hex_bytes.Given as goal

abbrev pub invariant-loop-high : goal.invariant-loop-high
invariant-loop-high l = option_map (λ bytes. vec_items l.bytes ++ bytes) (pair_bytes (drop l.high-index l.pairs)) ≡ pair_bytes l.pairs
