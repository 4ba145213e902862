-- The text of a pair of lent memories, `pair_text`, and how many bytes it can still take, `pair_space`.
-- `in_first` and `in_second` say how much of the text stands in each memory: the second has some only where the first is full, which the type of pairs says.
-- `KeepsBoth` says what of the memories no call changes.
use Rattle.std.specs.Prelude.{ℕ, ◌+◌, List, ◌++◌}
use Rattle.output.specs.Buffers.{buffer_text, buffer_space, Keeps}
use Rattle.output.specs.declared.pair.Pair.{Pair}

-- how many bytes at the front of the first memory are text
abbrev pub in_first : Pair → ℕ
in_first p = p.first.used

-- how many bytes at the front of the second memory are text: those that the first has no place for
abbrev pub in_second : Pair → ℕ
in_second p = p.second.used

-- the text in the first memory, and behind it the text in the second
abbrev pub pair_text : Pair → List ℕ
pair_text p = buffer_text p.first ++ buffer_text p.second

-- what is free of the two
abbrev pub pair_space : Pair → ℕ
pair_space p = buffer_space p.first + buffer_space p.second

-- b has the memories of a: each at the same place, as long, and with the same bytes behind the text
pub record KeepsBoth (a b : Pair) : Type 0 where
  pub first : Keeps a.first b.first
  pub second : Keeps a.second b.second
