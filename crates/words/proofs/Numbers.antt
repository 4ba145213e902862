-- The digits of a number, from the last to the first.
use Rattle.std.proofs.Common.{◌≡◌, ℕ, zero, suc, ◌/◌, ◌%◌, ◌<◌, ◌≤◌, [], ◌∷◌, ◌++◌, map, sym, refl, ap, ◌∙◌, ⊎_elim, mod-eq_of_lt, div-lt_iff_lt-mul, one-mul, arith}
use mathlib.Core.List.{map-append}
use native.Mathlib.Nat.{div-lt_self, div-eq_of_lt}
use Rattle.std.specs.Char.{digit_char}
use Rattle.std.specs.Int.Digits.{digits_of}
use Rattle.std.proofs.lemmas.Int.Digits.{digits_of_step}
use Rattle.std.proofs.lemmas.Bool.{ne_eqb, cases_lt}
use Rattle.words.specs.Numerals.{numeral}

pub fewer : (b n : ℕ) → 2 ≤ b → b ≤ n → n / b < n
fewer b n h l = let p : 0 < n = omega arith in div-lt_self p h

some_left : (b n : ℕ) → 2 ≤ b → b ≤ n → 0 < n / b
some_left b n h l =
    let p : 0 < b = omega arith in
    ⊎_elim (λ k. absurd (omega (arith, one-mul b, (div-lt_iff_lt-mul {k = b} {x = n} {y = 1} p).0 k))) (λ k. k) (cases_lt (n / b) 1)

numeral_digits : (b n : ℕ) → 0 < n → numeral b n ≡ map digit_char (digits_of b n)
numeral_digits b n h = rw (ne_eqb n 0 (omega arith))

pub numeral_one : (b n : ℕ) → 2 ≤ b → n < b → numeral b n ≡ digit_char n ∷ []
numeral_one b zero h l = refl
numeral_one b (suc n) h l =
    let p : 0 < suc n = omega arith in
    numeral_digits b (suc n) p
    ∙ ap (map digit_char) (digits_of_step b (suc n) h p ∙ ap (λ q. digits_of b q ++ suc n % b ∷ []) (div-eq_of_lt l))
    ∙ ap (λ r. digit_char r ∷ []) (mod-eq_of_lt l)

pub numeral_step : (b n : ℕ) → 2 ≤ b → b ≤ n → numeral b n ≡ numeral b (n / b) ++ digit_char (n % b) ∷ []
numeral_step b n h l =
    let p : 0 < n = omega arith in
    numeral_digits b n p
    ∙ ap (map digit_char) (digits_of_step b n h p)
    ∙ map-append digit_char (digits_of b (n / b)) _
    ∙ ap (λ z. z ++ digit_char (n % b) ∷ []) (sym (numeral_digits b (n / b) (some_left b n h l)))
