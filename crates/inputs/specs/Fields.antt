-- Fields: the bytes before the first separator, and those behind it. Without a separator all bytes are one field.
-- Assumes nothing.
use Rattle.std.specs.Prelude.{ℕ, Bool, cond, ◌&&◌, List, length, drop, ◌==◌, nat_lt, slice_index}
use Rattle.std.specs.List.{before_first, after_first}

abbrev pub before : ℕ → List ℕ → List ℕ
before sep s = before_first (λ c. c == sep) s

abbrev pub behind : ℕ → List ℕ → List ℕ
behind sep s = after_first (λ c. c == sep) s

-- whether the bytes begin with this one, and the bytes without it
abbrev pub led : ℕ → List ℕ → Bool
led b s = nat_lt 0 (length s) && slice_index s 0 == b

abbrev pub past : ℕ → List ℕ → List ℕ
past b s = cond (led b s) (drop 1 s) s
