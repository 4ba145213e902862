-- How much of a lent memory can be text. Assumes nothing.
use Rattle.std.specs.Prelude.{ℕ, ◌^◌, min, List, length}

-- all of it, but at most 1 GiB
abbrev pub usable : List ℕ → ℕ
usable mem = min (length mem) (2 ^ 30)
