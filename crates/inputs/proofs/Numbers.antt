-- How far digits have been read.
use Rattle.std.proofs.Common.{◌≡◌, ℕ, suc, zero, ◌+◌, ◌*◌, ◌/◌, ◌%◌, ◌^◌, ◌<◌, ◌≤◌, true, eqb, ltb, List, [], ◌∷◌, ◌++◌, length, get_or, drop, Some, None, Option, sym, refl, ap, ◌∙◌, append_assoc, append-nil, arith}
use Rattle.std.proofs.lemmas.List.{at_drop_more, at_drop_all}
use Rattle.std.proofs.lemmas.Bool.{cond-true, cond-false, eqb-true}
use Rattle.std.proofs.lemmas.Bool.Decides.{nat_tests}
use Rattle.std.specs.Option.{option_map, option_and_then}
use Rattle.std.specs.Simd.{first_chunks}
use Rattle.inputs.specs.Hex.{digit_value, number_from, below_2_32, hex_number, byte_of, bytes_of}

-- what is read of these digits behind n
abbrev pub read_from : ℕ → List ℕ → Option ℕ
read_from n s = option_and_then below_2_32 (number_from n s)

-- more digits make no number smaller
pub too_large : (n : ℕ) (s : List ℕ) → 2 ^ 32 ≤ n → read_from n s ≡ None
too_large n [] l = cond-false (ltb n (2 ^ 32)) (Some n) None (grind (arith, nat_tests))
too_large n (c ∷ s) l = more (λ d. too_large (n * 16 + d) s (omega (arith, l))) (digit_value c)
  where
    more : ((d : ℕ) → read_from (n * 16 + d) s ≡ None) → (o : Option ℕ) → option_and_then below_2_32 (option_and_then (λ d. number_from (n * 16 + d) s) o) ≡ None
    more h None = refl
    more h (Some d) = h d

module _ (s : List ℕ) (i n : ℕ) (l : i < length s) where
  pub number_more : (d : ℕ) → digit_value (get_or s i 0) ≡ Some d → read_from n (drop i s) ≡ read_from (n * 16 + d) (drop (i + 1) s)
  number_more d e = at_drop_more (read_from n) s i 0 l ∙ ap (λ o. option_and_then below_2_32 (option_and_then (λ d. number_from (n * 16 + d) (drop (i + 1) s)) o)) e

pub number_all : (s : List ℕ) (i n : ℕ) → length s ≤ i → n < 2 ^ 32 → read_from n (drop i s) ≡ Some n
number_all s i n l k = at_drop_all (read_from n) s i l ∙ cond-true (ltb n (2 ^ 32)) (Some n) None (grind (arith, nat_tests))

pub some_digits : (s : List ℕ) → 0 < length s → read_from 0 s ≡ hex_number s
some_digits (c ∷ s) l = refl
some_digits [] l = absurd (omega (arith, l))

-- the bytes of pairs that are cut already
abbrev pub pair_bytes : List (List ℕ) → Option (List ℕ)
pair_bytes [] = Some []
pair_bytes (p ∷ ps) = option_and_then (λ b. option_map (λ bytes. b ∷ bytes) (pair_bytes ps)) (byte_of (get_or p 0 0) (get_or p 1 0))

in_pairs : (s : List ℕ) (n : ℕ) → length s ≡ n * 2 → pair_bytes (first_chunks 2 n s) ≡ bytes_of s
in_pairs [] zero e = refl
in_pairs (c ∷ s) zero e = absurd (omega (arith, e))
in_pairs [] (suc n) e = absurd (omega (arith, e))
in_pairs (c ∷ []) (suc n) e = absurd (omega (arith, e))
in_pairs (c ∷ d ∷ s) (suc n) e = ap (λ o. option_and_then (λ b. option_map (λ bytes. b ∷ bytes) o) (byte_of c d)) (in_pairs s n (omega (arith, e)))

pub pairs_of : (s : List ℕ) (ps : List (List ℕ)) (n : ℕ) → ps ≡ first_chunks 2 (length s / 2) s → n ≡ length s % 2 → true ≡ eqb n 0 → pair_bytes ps ≡ bytes_of s
pairs_of s ps n e h z = ap pair_bytes e ∙ in_pairs s (length s / 2) (omega (arith, h, eqb-true n 0 (sym z)))

odd_digit : (s : List ℕ) (n : ℕ) → length s ≡ n * 2 + 1 → None ≡ bytes_of s
odd_digit [] n e = absurd (omega (arith, e))
odd_digit (c ∷ []) n e = refl
odd_digit (c ∷ d ∷ s) zero e = absurd (omega (arith, e))
odd_digit (c ∷ d ∷ s) (suc n) e = none (byte_of c d) ∙ ap (λ o. option_and_then (λ b. option_map (λ bytes. b ∷ bytes) o) (byte_of c d)) (odd_digit s n (omega (arith, e)))
  where
    none : (o : Option ℕ) → None ≡ option_and_then (λ b. option_map {T = List ℕ} (λ bytes. b ∷ bytes) None) o
    none None = refl
    none (Some b) = refl

pub odd_left : (s : List ℕ) → 0 < length s % 2 → None ≡ bytes_of s
odd_left s l = odd_digit s (length s / 2) (omega arith)

module _ (ps : List (List ℕ)) (i : ℕ) (done : List ℕ) where
  pub no_pair : i < length ps → byte_of (get_or (get_or ps i []) 0 0) (get_or (get_or ps i []) 1 0) ≡ None → option_map (λ bytes. done ++ bytes) (pair_bytes (drop i ps)) ≡ None
  no_pair l e =
      at_drop_more (λ z. option_map (λ bytes. done ++ bytes) (pair_bytes z)) ps i [] l
      ∙ ap (λ o. option_map (λ bytes. done ++ bytes) (option_and_then (λ b. option_map (λ bytes. b ∷ bytes) (pair_bytes (drop (i + 1) ps))) o)) e

  pub pair_more : i < length ps → (b : ℕ) → byte_of (get_or (get_or ps i []) 0 0) (get_or (get_or ps i []) 1 0) ≡ Some b
      → option_map (λ bytes. (done ++ b ∷ []) ++ bytes) (pair_bytes (drop (i + 1) ps)) ≡ option_map (λ bytes. done ++ bytes) (pair_bytes (drop i ps))
  pair_more l b e =
      joined (pair_bytes (drop (i + 1) ps))
      ∙ sym (at_drop_more (λ z. option_map (λ bytes. done ++ bytes) (pair_bytes z)) ps i [] l
      ∙ ap (λ o. option_map (λ bytes. done ++ bytes) (option_and_then (λ b. option_map (λ bytes. b ∷ bytes) (pair_bytes (drop (i + 1) ps))) o)) e)
    where
      joined : (o : Option (List ℕ)) → option_map (λ bytes. (done ++ b ∷ []) ++ bytes) o ≡ option_map (λ bytes. done ++ bytes) (option_map (λ bytes. b ∷ bytes) o)
      joined None = refl
      joined (Some bytes) = ap Some (append_assoc done (b ∷ []) bytes)

  pub pairs_all : length ps ≤ i → option_map (λ bytes. done ++ bytes) (pair_bytes (drop i ps)) ≡ Some done
  pairs_all l = at_drop_all (λ z. option_map (λ bytes. done ++ bytes) (pair_bytes z)) ps i l ∙ ap Some (append-nil done)
