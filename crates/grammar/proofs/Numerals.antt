-- The digits of a numeral: of which class they are, how many, and which number they write.
use Rattle.std.proofs.Common.{◌≡◌, ℕ, ◌^◌, ◌<◌, ◌≤◌, Bool, true, false, eqb, List, [], ◌∷◌, map, length, get_or, refl, ap, ◌∙◌, ap₂, arith}
use lib.ListN.{length-map}
use Rattle.std.specs.Char.{digit_char, digit_value}
use Rattle.std.specs.Int.Digits.{digits_of, number_from_digits, AllBelowBase}
use Rattle.std.proofs.lemmas.Int.Digits.{all_below_base_digits_of, first_digits_of, length-digits_of-le, number_digits_of}
use Rattle.std.proofs.lemmas.Bool.{and_from, eqb-true, eqb-false}
use Rattle.std.proofs.lemmas.Str.{digit_value-digit_char}
use Rattle.words.specs.Classes.{all}
use Rattle.words.specs.Numerals.{numeral}

-- the digits below b, as characters and as numbers
module _ (b : ℕ) where
  digits_in : (p : ℕ → Bool) → ((d : ℕ) → d < b → p (digit_char d) ≡ true) → (ds : List ℕ) → AllBelowBase b ds → all p (map digit_char ds) ≡ true
  digits_in p f [] h = refl
  digits_in p f (d ∷ ds) h = and_from (p (digit_char d)) (all p (map digit_char ds)) (f d h.0) (digits_in p f ds h.1)

  values : (ds : List ℕ) → b ≤ 36 → AllBelowBase b ds → map digit_value (map digit_char ds) ≡ ds
  values [] l h = refl
  values (d ∷ ds) l h = ap₂ ◌∷◌ (digit_value-digit_char d (omega (arith, h.0))) (values ds l h.1)

module _ (b n : ℕ) (two : 2 ≤ b) where
  -- what holds of 0 and of all digits of a number that is not 0 holds of its numeral
  numeral_has : (P : List ℕ → Type 0) → (n ≡ 0 → P (digit_char 0 ∷ [])) → (0 < n → P (map digit_char (digits_of b n))) → P (numeral b n)
  numeral_has P none some = step (eqb n 0) refl
    where
      step : (t : Bool) → eqb n 0 ≡ t → P (numeral b n)
      step true e = rw e (none (eqb-true n 0 e))
      step false e = let k = eqb-false n 0 e in rw e (some (omega arith))

  pub numeral_in : (p : ℕ → Bool) → ((d : ℕ) → d < b → p (digit_char d) ≡ true) → all p (numeral b n) ≡ true
  numeral_in p f = numeral_has (λ x. all p x ≡ true) (λ _. and_from (p (digit_char 0)) true (f 0 (omega arith)) refl) (λ _. digits_in b p f (digits_of b n) (all_below_base_digits_of b n two))

  pub numeral_some : 0 < length (numeral b n)
  numeral_some = numeral_has (λ x. 0 < length x) (λ _. omega arith) (λ l. some (digits_of b n) (first_digits_of b n two l))
    where
      some : (ds : List ℕ) → 0 < get_or ds 0 0 → 0 < length (map digit_char ds)
      some [] l = l
      some (d ∷ ds) l = omega arith

  pub numeral_most : (k : ℕ) → 1 ≤ k → n < b ^ k → length (numeral b n) ≤ k
  numeral_most k h l = numeral_has (λ x. length x ≤ k) (λ _. h) (λ _. omega (arith, length-map (digits_of b n) digit_char, length-digits_of-le b k n two l))

  -- a numeral writes its number
  pub numeral_number : b ≤ 36 → number_from_digits b (map digit_value (numeral b n)) ≡ n
  numeral_number l =
      numeral_has (λ x. number_from_digits b (map digit_value x) ≡ n) (λ e. omega arith)
      (λ _. ap (number_from_digits b) (values b (digits_of b n) l (all_below_base_digits_of b n two)) ∙ number_digits_of b n two)
