-- UTF-8: which bytes are text, and which scalar values they spell. From RFC 3629, sections 3 and 4.
-- A byte, a scalar value and a count are plain numbers. Assumes nothing.
use Rattle.std.specs.Prelude.{◌≡◌, ℕ, ◌+◌, ◌-◌, ◌*◌, ◌/◌, ◌%◌, ◌<◌, ◌≤◌, Bool, true, false, cond, ◌&&◌, ◌||◌, List, [], ◌∷◌, ◌++◌, length, take, drop, is_some, Some, None, Option, ◌==◌, ◌≢◌, nat_le}
use Rattle.std.specs.Option.{option_map, unwrap_or}

-- lo ≤ n ≤ hi
abbrev pub within : ℕ → ℕ → ℕ → Bool
within lo hi n = nat_le lo n && nat_le n hi

-- a Unicode scalar value: at most 0x10FFFF, and no surrogate
abbrev pub scalar : ℕ → Bool
scalar c = within 0 0xD7FF c || within 0xE000 0x10FFFF c

abbrev pub scalars : List ℕ → Bool
scalars [] = true
scalars (c ∷ cs) = scalar c && scalars cs

-- Section 3: by the range of its number, the bytes of a scalar value, six bits in each byte behind the first
abbrev pub low_six : ℕ → ℕ
low_six n = 0x80 + n % 64

unfoldable pub encode : ℕ → List ℕ
encode c =
    cond (nat_le c 0x7F) (c ∷ [])
    (cond (nat_le c 0x7FF) ((0xC0 + c / 64) ∷ low_six c ∷ [])
    (cond (nat_le c 0xFFFF) ((0xE0 + c / 4096) ∷ low_six (c / 64) ∷ low_six c ∷ [])
    ((0xF0 + c / 262144) ∷ low_six (c / 4096) ∷ low_six (c / 64) ∷ low_six c ∷ [])))

abbrev pub encodes : List ℕ → List ℕ
encodes [] = []
encodes (c ∷ cs) = encode c ++ encodes cs

-- Section 4: the sequences of one to four bytes, as its grammar lists them
abbrev pub tail : ℕ → Bool
tail b = within 0x80 0xBF b

abbrev pub one_byte : ℕ → Bool
one_byte a = within 0x00 0x7F a

abbrev pub two_bytes : ℕ → ℕ → Bool
two_bytes a b = within 0xC2 0xDF a && tail b

abbrev pub three_bytes : ℕ → ℕ → ℕ → Bool
three_bytes a b c =
    ((a == 0xE0 && within 0xA0 0xBF b)
    || (within 0xE1 0xEC a && tail b)
    || (a == 0xED && within 0x80 0x9F b)
    || (within 0xEE 0xEF a && tail b))
    && tail c

abbrev pub four_bytes : ℕ → ℕ → ℕ → ℕ → Bool
four_bytes a b c d =
    ((a == 0xF0 && within 0x90 0xBF b)
    || (within 0xF1 0xF3 a && tail b)
    || (a == 0xF4 && within 0x80 0x8F b))
    && tail c
    && tail d

-- the numbers that these sequences spell
abbrev pub of_two : ℕ → ℕ → ℕ
of_two a b = (a - 0xC0) * 64 + (b - 0x80)

abbrev pub of_three : ℕ → ℕ → ℕ → ℕ
of_three a b c = (a - 0xE0) * 4096 + (b - 0x80) * 64 + (c - 0x80)

abbrev pub of_four : ℕ → ℕ → ℕ → ℕ → ℕ
of_four a b c d = (a - 0xF0) * 262144 + (b - 0x80) * 4096 + (c - 0x80) * 64 + (d - 0x80)

-- The scalar values that the bytes spell from first to last, or none where some byte begins no sequence
unfoldable mutual
  pub decode : List ℕ → Option (List ℕ)
  decode [] = Some []
  decode (a ∷ s) = elim (one_byte a) [ true ↦ option_map (λ cs. a ∷ cs) (decode s) | false ↦ decode_two a s ]

  pub decode_two : ℕ → List ℕ → Option (List ℕ)
  decode_two a [] = None
  decode_two a (b ∷ s) = elim (two_bytes a b) [ true ↦ option_map (λ cs. of_two a b ∷ cs) (decode s) | false ↦ decode_three a b s ]

  pub decode_three : ℕ → ℕ → List ℕ → Option (List ℕ)
  decode_three a b [] = None
  decode_three a b (c ∷ s) = elim (three_bytes a b c) [ true ↦ option_map (λ cs. of_three a b c ∷ cs) (decode s) | false ↦ decode_four a b c s ]

  pub decode_four : ℕ → ℕ → ℕ → List ℕ → Option (List ℕ)
  decode_four a b c [] = None
  decode_four a b c (d ∷ s) = elim (four_bytes a b c d) [ true ↦ option_map (λ cs. of_four a b c d ∷ cs) (decode s) | false ↦ None ]

-- The bytes are UTF-8; the scalar values that they then spell
abbrev pub utf8 : List ℕ → Bool
utf8 s = is_some (decode s)

abbrev pub decoded : List ℕ → List ℕ
decoded s = unwrap_or (decode s) []

-- Where the bytes begin with a scalar value: the value and how many bytes it has; or that they begin with none
abbrev pub Front : List ℕ → Option (ℕ × ℕ) → Type 0
Front s None = (c : ℕ) (r : List ℕ) → scalar c ≡ true → s ≢ encode c ++ r
Front s (Some f) = (scalar f.0 ≡ true) × (take f.1 s ≡ encode f.0) × (f.1 ≤ length s)

-- Where the bytes are not UTF-8: the first byte at which no scalar value begins, if there is one
abbrev pub MalformedAt : List ℕ → Option ℕ → Type 0
MalformedAt s None = utf8 s ≡ true
MalformedAt s (Some at) = (utf8 s ≡ false) × (at < length s) × (utf8 (take at s) ≡ true) × Front (drop at s) None

-- Decoding is exact: what decodes is scalar values whose bytes are these, and the bytes of scalar values decode to them.
-- So bytes spell at most one list of scalar values.
abbrev pub DecodingIsExact : Type 0
DecodingIsExact =
    ((s cs : List ℕ) → decode s ≡ Some cs → (scalars cs ≡ true) × (encodes cs ≡ s))
    × ((cs : List ℕ) → scalars cs ≡ true → decode (encodes cs) ≡ Some cs)
    × ((cs ds : List ℕ) → scalars cs ≡ true → scalars ds ≡ true → encodes cs ≡ encodes ds → cs ≡ ds)
