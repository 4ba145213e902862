-- The bytes that an encoded scalar value holds.
-- Assumes nothing.
use Rattle.std.specs.Prelude.{ℕ, List}
use Rattle.chars.specs.declared.encoding.Encoded.{Encoded}
use Rattle.chars.specs.declared.encoding.Encoded.TheVariants.{One, Two, Three, Four}

abbrev pub bytes_of : Encoded → List ℕ
bytes_of (One s) = s
bytes_of (Two s) = s
bytes_of (Three s) = s
bytes_of (Four s) = s
