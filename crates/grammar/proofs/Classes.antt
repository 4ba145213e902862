-- Classes of characters over lists, and which of them go on behind an item.
use Rattle.std.proofs.Common.{◌≡◌, ℕ, ◌<◌, Bool, true, false, List, [], ◌∷◌, ◌++◌, length, codes, refl, ⊎_elim, arith}
use Rattle.std.proofs.lemmas.Bool.{and_parts, and_from, or_cases}
use Rattle.chars.specs.Blanks.{none_in}
use Rattle.chars.proofs.Apart.{not_in}
use Rattle.chars.specs.Blanks.{among, blank}
use Rattle.words.specs.Classes.{all}
use Rattle.grammar.specs.Tokens.{begins}
use Rattle.grammar.specs.ReadBack.{ends_token}

pub all_weaker : (p q : ℕ → Bool) → ((c : ℕ) → p c ≡ true → q c ≡ true) → (x : List ℕ) → all p x ≡ true → all q x ≡ true
all_weaker p q f [] h = refl
all_weaker p q f (c ∷ x) h =
    let k = and_parts (p c) (all p x) h in
    and_from (q c) (all q x) (f c k.0) (all_weaker p q f x k.1)

pub all_append : (p : ℕ → Bool) (x y : List ℕ) → all p x ≡ true → all p y ≡ true → all p (x ++ y) ≡ true
all_append p [] y h k = k
all_append p (c ∷ x) y h k = let q = and_parts (p c) (all p x) h in and_from (p c) (all p (x ++ y)) q.0 (all_append p x y q.1 k)

pub begins_append : (p : ℕ → Bool) (x y : List ℕ) → begins p x ≡ true → begins p (x ++ y) ≡ true
begins_append p [] y h = cc
begins_append p (c ∷ x) y h = h

pub begins_all : (p : ℕ → Bool) (x : List ℕ) → 0 < length x → all p x ≡ true → begins p x ≡ true
begins_all p [] l h = absurd (omega arith)
begins_all p (c ∷ x) l h = (and_parts (p c) (all p x) h).0

-- what may stand behind an item goes on with no class that is without blanks, commas and brackets
pub no_longer : (p : ℕ → Bool) → ((c : ℕ) → blank c ≡ true → p c ≡ false) → none_in p (codes ",])(") ≡ true → (r : List ℕ) → ends_token r ≡ true → begins p r ≡ false
no_longer p b n [] h = refl
no_longer p b n (c ∷ r) h = ⊎_elim (b c) (not_in p (codes ",])(") c n) (or_cases (blank c) (among (codes ",])(") c) h)
