-- Hexadecimal, in digits of either case: numbers below 2 ^ 32, and bytes of two digits each.
-- Assumes nothing.
use Rattle.std.specs.Prelude.{ℕ, ◌+◌, ◌-◌, ◌*◌, ◌^◌, if◌then◌else◌, List, [], ◌∷◌, Some, None, Option, nat_lt}
use Rattle.std.specs.Option.{option_map, option_and_then}
use Rattle.chars.specs.Tables.{digit}
use Rattle.chars.specs.Utf8.{within}

-- what a digit counts
abbrev pub digit_value : ℕ → Option ℕ
digit_value c =
    if digit c then Some (c - 0x30)
    else if within 0x61 0x66 c then Some (c - 0x57)
    else if within 0x41 0x46 c then Some (c - 0x37)
    else None

-- the number that these digits make of n, the digits in front of them
abbrev pub number_from : ℕ → List ℕ → Option ℕ
number_from n [] = Some n
number_from n (c ∷ s) = option_and_then (λ d. number_from (n * 16 + d) s) (digit_value c)

abbrev pub below_2_32 : ℕ → Option ℕ
below_2_32 n = if nat_lt n (2 ^ 32) then Some n else None

-- at least one digit
abbrev pub hex_number : List ℕ → Option ℕ
hex_number [] = None
hex_number (c ∷ s) = option_and_then below_2_32 (number_from 0 (c ∷ s))

-- the byte of two digits
abbrev pub byte_of : ℕ → ℕ → Option ℕ
byte_of c d = option_and_then (λ high. option_map (λ low. high * 16 + low) (digit_value d)) (digit_value c)

-- the bytes of pairs of digits
abbrev pub bytes_of : List ℕ → Option (List ℕ)
bytes_of [] = Some []
bytes_of (c ∷ []) = None
bytes_of (c ∷ d ∷ s) = option_and_then (λ b. option_map (λ bytes. b ∷ bytes) (bytes_of s)) (byte_of c d)
