-- The bytes of a character beyond ASCII are all beyond ASCII.
use Rattle.std.proofs.Common.{◌≡◌, ℕ, ◌≤◌, true, ◌⊎◌, List, [], ◌∷◌, inl, inr, arith}
use Rattle.std.proofs.lemmas.Bool.{and_parts}
use Rattle.std.proofs.lemmas.Bool.Decides.{nat_tests}
use Rattle.chars.specs.Utf8.{scalar, encode, tail, two_bytes, three_bytes, four_bytes, of_two, of_three, of_four}
use Rattle.chars.proofs.Decoding.{Spelled, in_one, in_two, in_three, in_four, spelled}

-- every byte is 0x80 or more
abbrev pub High : List ℕ → Type 0
High [] = Unit {0}
High (b ∷ s) = (0x80 ≤ b) × High s

-- a character of ASCII is its own byte; any other has two or more high bytes
pub encode_parts : (c : ℕ) → scalar c ≡ true → (encode c ≡ c ∷ []) ⊎ ((0x80 ≤ c) × (b : ℕ) × (s : List ℕ) × (encode c ≡ b ∷ s) × High (b ∷ s))
encode_parts c h = step (spelled c h)
  where
    high_tail : (b : ℕ) → tail b ≡ true → 0x80 ≤ b
    high_tail b t = grind (arith, nat_tests)

    high_two : (a b : ℕ) → two_bytes a b ≡ true → (0x80 ≤ of_two a b) × (0x80 ≤ a) × (0x80 ≤ b)
    high_two a b t = (grind (arith, nat_tests), grind (arith, nat_tests), grind (arith, nat_tests))

    high_three : (a b d : ℕ) → three_bytes a b d ≡ true → (0x80 ≤ of_three a b d) × (0x80 ≤ a) × (0x80 ≤ b) × (0x80 ≤ d)
    high_three a b d t = (grind (arith, nat_tests), grind (arith, nat_tests), grind (arith, nat_tests), grind (arith, nat_tests))

    high_four : (a b d e : ℕ) → four_bytes a b d e ≡ true → (0x80 ≤ of_four a b d e) × (0x80 ≤ a) × (0x80 ≤ b) × (0x80 ≤ d) × (0x80 ≤ e)
    high_four a b d e t =
        let lasts = and_parts _ (tail e) t in
        (grind (arith, nat_tests), grind (arith, nat_tests), grind (arith, nat_tests), high_tail d (and_parts _ (tail d) lasts.0).1, high_tail e lasts.1)

    step : Spelled c → (encode c ≡ c ∷ []) ⊎ ((0x80 ≤ c) × (b : ℕ) × (s : List ℕ) × (encode c ≡ b ∷ s) × High (b ∷ s))
    step (in_one t e) = inl e
    step (in_two a b n t e v) = let k = high_two a b t in inr (omega (arith, v), a, b ∷ [], e, (k.1, (k.2, tt)))
    step (in_three a b d n m t e v) = let k = high_three a b d t in inr (omega (arith, v), a, b ∷ d ∷ [], e, (k.1, (k.2, (k.3, tt))))
    step (in_four a b d f n m x t e v) = let k = high_four a b d f t in inr (omega (arith, v), a, b ∷ d ∷ f ∷ [], e, (k.1, (k.2, (k.3, (k.4, tt)))))
