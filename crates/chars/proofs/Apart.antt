-- Lists of characters and sets that have nothing in common.
use Rattle.std.proofs.Common.{◌≡◌, ℕ, Bool, true, false, not, eqb, List, [], ◌∷◌, ap, ◌∙◌, ⊎_elim}
use Rattle.std.proofs.lemmas.Bool.{or_cases, and_parts, not-true, eqb-true, false≢true}
use Rattle.chars.specs.Blanks.{among, none_in}

pub not_in : (p : ℕ → Bool) (ds : List ℕ) (c : ℕ) → none_in p ds ≡ true → among ds c ≡ true → p c ≡ false
not_in p [] c h k = absurd (false≢true k)
not_in p (d ∷ ds) c h k =
    let parts = and_parts (not (p d)) (none_in p ds) h in
    ⊎_elim (λ e. ap p (eqb-true c d e) ∙ not-true (p d) parts.0) (not_in p ds c parts.1) (or_cases (eqb c d) (among ds c) k)
