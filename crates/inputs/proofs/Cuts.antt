-- Where a line ends.
use Rattle.std.proofs.Common.{◌≡◌, ℕ, ◌<◌, Bool, true, false, cond, not, eqb, List, [], ◌∷◌, ◌++◌, length, unwrap_or, Some, None, Option, MatchOption, refl, sym, ap, ◌∙◌, append_assoc, arith}
use Rattle.std.specs.Borrow.{Bor}
use Rattle.std.proofs.lemmas.Bool.{and_parts, and_from, ne_eqb}
use Rattle.std.proofs.lemmas.Bool.Decides.{nat_tests}
use Rattle.std.proofs.lemmas.List.Sums.{take_while-cons}
use Rattle.inputs.specs.Fields.{before}
use Rattle.inputs.specs.Lines.{LF, CR, one_line, ends_in_cr, Cut, at_lf, at_cr_lf}

pub one_line_before : (s : List ℕ) → one_line (before LF s) ≡ true
one_line_before [] = refl
one_line_before (c ∷ s) = ap one_line (take_while-cons (λ c. not (eqb c LF)) c s) ∙ head (one_line_before s) (not (eqb c LF)) refl
  where
    head : one_line (before LF s) ≡ true → (t : Bool) → not (eqb c LF) ≡ t → one_line (cond t (c ∷ before LF s) []) ≡ true
    head h true e = and_from (not (eqb c LF)) (one_line (before LF s)) e h
    head h false e = refl

one_line_front : (x y : List ℕ) → one_line (x ++ y) ≡ true → one_line x ≡ true
one_line_front [] y h = refl
one_line_front (c ∷ x) y h =
    let p = and_parts (not (eqb c LF)) (one_line (x ++ y)) h in
    and_from (not (eqb c LF)) (one_line x) p.0 (one_line_front x y p.1)

no_cr : (x : List ℕ) → ((front : List ℕ) → x ≡ front ++ CR ∷ [] → ⊥) → ends_in_cr x ≡ false
no_cr [] n = refl
no_cr (c ∷ []) n = ne_eqb c CR (λ e. n [] (ap (λ z. z ∷ []) e))
no_cr (c ∷ d ∷ x) n = no_cr (d ∷ x) (λ front e. n (c ∷ front) (ap (λ z. c ∷ z) e))

-- a line that a line feed ends, with or without a carriage return before it
pub cut_at_lf : (s rest : List ℕ) (line : Bor (List ℕ)) (r : Option (Bor (List ℕ))) → s ≡ line.now ++ LF ∷ rest → one_line line.now ≡ true
    → MatchOption r ((front : List ℕ) → line.now ≡ front ++ CR ∷ [] → ⊥) (λ front. line.now ≡ front.now ++ CR ∷ []) → Cut s (unwrap_or r line).now rest
cut_at_lf s rest line None whole h n = at_lf h (no_cr line.now n) whole
cut_at_lf s rest line (Some front) whole h e =
    at_cr_lf (one_line_front front.now (CR ∷ []) (ap one_line (sym e) ∙ h))
    (whole ∙ ap (λ z. z ++ LF ∷ rest) e ∙ append_assoc front.now (CR ∷ []) (LF ∷ rest))

pub not_empty : (s : List ℕ) → false ≡ eqb (length s) 0 → 0 < length s
not_empty s h = grind (arith, nat_tests)
