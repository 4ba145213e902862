use Rattle.std.proofs.Common.{◌≡◌, length}
use Rattle.chars.specs.Cursor.{left}
use Rattle.chars.proofs.Decoding.{Read}
use Rattle.chars.proofs.text.Text.new.Given as goal

-- what has been read is the bytes of scalar values
abbrev pub invariant-loop : goal.invariant-loop
invariant-loop l = (l.cursor.len ≡ length l.bytes) × Read l.bytes (left l.cursor)

abbrev pub decreases-loop : goal.decreases-loop
decreases-loop l = length (left l.cursor)
