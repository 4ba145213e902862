-- The text of a buffer over lent memory, `buffer_text`, and how many bytes it can still take, `buffer_space`.
-- `Keeps` says what of the memory no call changes.
use Rattle.std.specs.Prelude.{◌≡◌, ℕ, ◌-◌, ◌^◌, ◌≤◌, min, List, length, take, slice_index}
use Rattle.output.specs.Usable.{usable}
use Rattle.output.specs.declared.buffer.Buffer.{Buffer}

-- the first `used` bytes of the memory
abbrev pub buffer_text : Buffer → List ℕ
buffer_text b = take b.used b.mem.now

-- what is free of the bytes that can be text
abbrev pub buffer_space : Buffer → ℕ
buffer_space b = usable b.mem.now - b.used

-- b has the memory of a: at the same place, as long, and with the same bytes behind the text
pub record Keeps (a b : Buffer) : Type 0 where
  pub grows : a.used ≤ b.used
  pub size : length b.mem.now ≡ length a.mem.now
  pub behind : (k : ℕ) → b.used ≤ k → slice_index b.mem.now k ≡ slice_index a.mem.now k
  pub place : b.mem.ghost_name ≡ a.mem.ghost_name
