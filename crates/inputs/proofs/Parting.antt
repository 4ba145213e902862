-- Where the first separator stands.
use Rattle.std.proofs.Common.{◌≡◌, ℕ, ◌+◌, ◌-◌, ◌≤◌, eqb, List, [], ◌∷◌, ◌++◌, length, get_or, take, drop, Some, None, sym, ap, ◌∙◌, arith}
use Rattle.std.specs.List.{position, position_or_len}
use Rattle.std.proofs.lemmas.List.{take_rest, take_all, drop_all}
use Rattle.std.proofs.lemmas.List.Quantifiers.{position-Some}
use Rattle.std.proofs.lemmas.List.Sums.{position_or_len_is, split_at_first}
use Rattle.std.proofs.lemmas.Bool.Decides.{nat_tests}
use borrow.Author.Tests.{eqb-true}
use Rattle.inputs.specs.Fields.{before, behind}

-- what is cut off at the first separator
pub record Found (sep : ℕ) (s : List ℕ) (i : ℕ) : Type 0 where
  pub field : take i s ≡ before sep s
  pub rest : take (length s - (i + 1)) (drop (i + 1) s) ≡ behind sep s
  pub whole : s ≡ take i s ++ sep ∷ take (length s - (i + 1)) (drop (i + 1) s)

pub found : (sep : ℕ) (s : List ℕ) (i : ℕ) → position (λ c. eqb c sep) s ≡ Some i → Found sep s i
found sep s i e =
    let p = λ (c : ℕ). eqb c sep in
    let h = position-Some p s i 0 e in
    let first : position_or_len p s ≡ i = position_or_len_is p s i 0 (omega (arith, h.0)) h.2 (λ _. h.1) in
    let rest : take (length s - (i + 1)) (drop (i + 1) s) ≡ behind sep s = take_rest s (i + 1) ∙ ap (λ n. drop (n + 1) s) (sym first) in
    record {
      field = ap (λ n. take n s) (sym first);
      rest = rest;
      whole =
          split_at_first p s 0 (omega (arith, h.0, first)) ∙ ap (λ n. take n s ++ get_or s n 0 ∷ drop (n + 1) s) first
          ∙ ap (λ c. take i s ++ c ∷ drop (i + 1) s) (eqb-true (get_or s i 0) sep h.1) ∙ ap (λ z. take i s ++ sep ∷ z) (sym (take_rest s (i + 1)));
    }

pub not_found : (sep : ℕ) (s : List ℕ) → position (λ c. eqb c sep) s ≡ None → (s ≡ before sep s) × ([] ≡ behind sep s)
not_found sep s e =
    let p = λ (c : ℕ). eqb c sep in
    let l : length s ≤ position_or_len p s = grind (arith, nat_tests) in
    (sym (take_all (position_or_len p s) s l), sym (drop_all (position_or_len p s + 1) s (omega arith)))
