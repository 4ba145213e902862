-- What the sequences of one to four bytes spell, and that each scalar value is spelled by one of them.
use Rattle.std.proofs.Common.{◌≡◌, ℕ, ◌+◌, ◌-◌, ◌*◌, ◌/◌, ◌≤◌, true, leb, [], ◌∷◌, ◌∙◌, arith}
use Rattle.std.proofs.lemmas.Bool.{leb-true, le-leb, lt-leb, and_parts}
use Rattle.std.proofs.lemmas.Bool.Decides.{nat_tests}
use Rattle.chars.specs.Utf8.{scalar, encode, low_six, tail, one_byte, two_bytes, three_bytes, four_bytes, of_two, of_three, of_four}

pub one_scalar : (a : ℕ) → one_byte a ≡ true → scalar a ≡ true
one_scalar a h = grind (arith, nat_tests)

pub two_scalar : (a b : ℕ) → two_bytes a b ≡ true → scalar (of_two a b) ≡ true
two_scalar a b h = grind (arith, nat_tests)

pub three_scalar : (a b c : ℕ) → three_bytes a b c ≡ true → scalar (of_three a b c) ≡ true
three_scalar a b c h = grind (arith, nat_tests)

pub four_scalar : (a b c d : ℕ) → four_bytes a b c d ≡ true → scalar (of_four a b c d) ≡ true
four_scalar a b c d h = grind (arith, nat_tests)

-- two lists of given elements
pub two_same : {a b a' b' : ℕ} → a ≡ a' → b ≡ b' → a ∷ b ∷ [] ≡ a' ∷ b' ∷ []
two_same p q = cc

pub three_same : {a b c a' b' c' : ℕ} → a ≡ a' → b ≡ b' → c ≡ c' → a ∷ b ∷ c ∷ [] ≡ a' ∷ b' ∷ c' ∷ []
three_same p q r = cc

pub four_same : {a b c d a' b' c' d' : ℕ} → a ≡ a' → b ≡ b' → c ≡ c' → d ≡ d' → a ∷ b ∷ c ∷ d ∷ [] ≡ a' ∷ b' ∷ c' ∷ d' ∷ []
four_same p q r s = cc

-- by the range of its number, which bytes a scalar value has
pub encode_one : (n : ℕ) → n ≤ 0x7F → encode n ≡ n ∷ []
unfolding encode
encode_one n h = rw (le-leb n 0x7F h)

pub encode_two : (n : ℕ) → 0x80 ≤ n → n ≤ 0x7FF → encode n ≡ (0xC0 + n / 64) ∷ low_six n ∷ []
unfolding encode
encode_two n l h = rw (lt-leb n 0x7F l, le-leb n 0x7FF h)

pub encode_three : (n : ℕ) → 0x800 ≤ n → n ≤ 0xFFFF → encode n ≡ (0xE0 + n / 4096) ∷ low_six (n / 64) ∷ low_six n ∷ []
unfolding encode
encode_three n l h = rw (lt-leb n 0x7F (omega arith), lt-leb n 0x7FF l, le-leb n 0xFFFF h)

pub encode_four : (n : ℕ) → 0x10000 ≤ n → encode n ≡ (0xF0 + n / 262144) ∷ low_six (n / 4096) ∷ low_six (n / 64) ∷ low_six n ∷ []
unfolding encode
encode_four n l = rw (lt-leb n 0x7F (omega arith), lt-leb n 0x7FF (omega arith), lt-leb n 0xFFFF l)

-- the bytes that a sequence's number has are the sequence
pub one_encodes : (a : ℕ) → one_byte a ≡ true → encode a ≡ a ∷ []
one_encodes a h = encode_one a (leb-true a 0x7F (and_parts (leb 0 a) (leb a 0x7F) h).1)

pub two_encodes : (a b : ℕ) → two_bytes a b ≡ true → encode (of_two a b) ≡ a ∷ b ∷ []
two_encodes a b h =
    let bounds : (0xC2 ≤ a) × (a ≤ 0xDF) × (0x80 ≤ b) × (b ≤ 0xBF) = grind (arith, nat_tests) in
    encode_two (of_two a b) (omega arith) (omega arith) ∙ two_same (omega arith) (omega arith)

tail_bounds : (b : ℕ) → tail b ≡ true → (0x80 ≤ b) × (b ≤ 0xBF)
tail_bounds b h = grind (arith, nat_tests)

three_bounds : (a b c : ℕ) → three_bytes a b c ≡ true → (0xE0 ≤ a) × (a ≤ 0xEF) × (0x80 ≤ b) × (b ≤ 0xBF) × (32 ≤ (a - 0xE0) * 64 + (b - 0x80))
three_bounds a b c h =
    (grind (arith, nat_tests), grind (arith, nat_tests), grind (arith, nat_tests), grind (arith, nat_tests), grind (arith, nat_tests))

pub three_encodes : (a b c : ℕ) → three_bytes a b c ≡ true → encode (of_three a b c) ≡ a ∷ b ∷ c ∷ []
three_encodes a b c h =
    let front = three_bounds a b c h in
    let last = tail_bounds c (and_parts _ (tail c) h).1 in
    encode_three (of_three a b c) (omega arith) (omega arith) ∙ three_same (omega arith) (omega arith) (omega arith)

four_bounds : (a b c d : ℕ) → four_bytes a b c d ≡ true → (0xF0 ≤ a) × (a ≤ 0xF4) × (0x80 ≤ b) × (b ≤ 0xBF) × (16 ≤ (a - 0xF0) * 64 + (b - 0x80))
four_bounds a b c d h =
    (grind (arith, nat_tests), grind (arith, nat_tests), grind (arith, nat_tests), grind (arith, nat_tests), grind (arith, nat_tests))

pub four_encodes : (a b c d : ℕ) → four_bytes a b c d ≡ true → encode (of_four a b c d) ≡ a ∷ b ∷ c ∷ d ∷ []
four_encodes a b c d h =
    let front = four_bounds a b c d h in
    let lasts = and_parts _ (tail d) h in
    let third = tail_bounds c (and_parts _ (tail c) lasts.0).1 in
    let last = tail_bounds d lasts.1 in
    encode_four (of_four a b c d) (omega arith) ∙ four_same (omega arith) (omega arith) (omega arith) (omega arith)

-- the sequence that a scalar value's bytes are
pub spells_two : (n : ℕ) → 0x80 ≤ n → n ≤ 0x7FF → two_bytes (0xC0 + n / 64) (low_six n) ≡ true
spells_two n l h = grind (arith, nat_tests)

pub spells_three : (n : ℕ) → 0x800 ≤ n → n ≤ 0xFFFF → scalar n ≡ true → three_bytes (0xE0 + n / 4096) (low_six (n / 64)) (low_six n) ≡ true
spells_three n l h s = grind (arith, nat_tests)

pub spells_four : (n : ℕ) → 0x10000 ≤ n → scalar n ≡ true → four_bytes (0xF0 + n / 262144) (low_six (n / 4096)) (low_six (n / 64)) (low_six n) ≡ true
spells_four n l s = grind (arith, nat_tests)
