-- A suffix that is there only where suffixes are on.
use Rattle.std.proofs.Common.{◌≡◌, Bool, true, false, List, ℕ, [], Option, ap, ◌∙◌}
use Rattle.std.specs.Bool.{then_some}
use Rattle.std.specs.Option.{unwrap_or, option_map}
use Rattle.literals.specs.Integers.{suffix_if}

pub suffix_chosen : {X : Type 0} (now : X → List ℕ) (on : Bool) (s : X) {o : Option X} {x : List ℕ} → o ≡ then_some on s → now s ≡ x → unwrap_or (option_map now o) [] ≡ suffix_if on x
suffix_chosen now true s p q = ap (λ o. unwrap_or (option_map now o) []) p ∙ q
suffix_chosen now false s p q = ap (λ o. unwrap_or (option_map now o) []) p
