-- What a cursor over bytes has still to read, and what one step of it does.
-- Assumes nothing.
use Rattle.std.specs.Prelude.{◌≡◌, ℕ, ◌-◌, ◌<◌, true, List, [], ◌++◌, length, Some, None, Ok, Err, Option, Result}
use Rattle.chars.specs.Utf8.{scalar, encode, Front}
use Rattle.chars.specs.declared.utf8.Scalars.{Scalars}
use Rattle.chars.specs.declared.utf8.Malformed.{Malformed}

-- the bytes that are still to be read
abbrev pub left : Scalars → List ℕ
left c = c.rest.now

-- how many bytes have been read
abbrev pub position : Scalars → ℕ
position c = c.len - length (left c)

-- a step hands out the next scalar value and passes over its bytes; at bytes that are not UTF-8, and at the end, the cursor stays
abbrev pub Steps : Scalars → Result (Option ℕ) Malformed → Scalars → Type 0
Steps c (Ok (Some k)) d = (scalar k ≡ true) × (left c ≡ encode k ++ left d) × (d.len ≡ c.len)
Steps c (Ok None) d = (left c ≡ []) × (d ≡ c)
Steps c (Err e) d = (e.at ≡ position c) × (0 < length (left c)) × Front (left c) None × (d ≡ c)
