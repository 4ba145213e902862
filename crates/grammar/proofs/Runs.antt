-- A run and the blanks between tokens are cut from a text in one way only.
-- Assumes nothing.
use Rattle.std.proofs.Common.{◌≡◌, ℕ, Bool, true, false, cond, eqb, List, [], ◌∷◌, ◌++◌, sym, refl, ap, ◌∙◌}
use Rattle.std.proofs.lemmas.Bool.{both_ways, ne_eqb, and_parts}
use Rattle.chars.specs.Blanks.{blank}
use Rattle.words.specs.Classes.{all}
use Rattle.grammar.specs.Tokens.{begins, Run, Blanks}

pub head_is : {c d : ℕ} {x y : List ℕ} → c ∷ x ≡ d ∷ y → c ≡ d
head_is e = cc

pub tail_is : {c d : ℕ} {x y : List ℕ} → c ∷ x ≡ d ∷ y → x ≡ y
tail_is e = cc

-- two texts that are one do not begin with characters of two classes
pub clash : (p : ℕ → Bool) {c d : ℕ} {x y : List ℕ} → c ∷ x ≡ d ∷ y → p c ≡ true → p d ≡ false → ⊥
clash p {c} {d} e h k = both_ways (p d) k (sym (ap p (head_is e)) ∙ h)

-- a character that is in a set is not one that is outside
pub apart : (p : ℕ → Bool) (c d : ℕ) → p c ≡ true → p d ≡ false → eqb c d ≡ false
apart p c d h k = ne_eqb c d (λ e. both_ways (p d) k (sym (ap p e) ∙ h))

-- the longest run, and what is behind it
abbrev pub take_while : (ℕ → Bool) → List ℕ → List ℕ
take_while p [] = []
take_while p (c ∷ s) = cond (p c) (c ∷ take_while p s) []

abbrev pub drop_while : (ℕ → Bool) → List ℕ → List ℕ
drop_while p [] = []
drop_while p (c ∷ s) = cond (p c) (drop_while p s) (c ∷ s)

pub take_run : (p : ℕ → Bool) (x r : List ℕ) → all p x ≡ true → begins p r ≡ false → take_while p (x ++ r) ≡ x
take_run p [] [] a e = refl
take_run p [] (c ∷ r) a e = rw e
take_run p (c ∷ x) r a e = let h = and_parts (p c) (all p x) a in rw h.0 (ap (λ z. c ∷ z) (take_run p x r h.1 e))

pub drop_run : (p : ℕ → Bool) (x r : List ℕ) → all p x ≡ true → begins p r ≡ false → drop_while p (x ++ r) ≡ r
drop_run p [] [] a e = refl
drop_run p [] (c ∷ r) a e = rw e
drop_run p (c ∷ x) r a e = let h = and_parts (p c) (all p x) a in rw h.0 (drop_run p x r h.1 e)

module _ {first next : ℕ → Bool} where
  pub run_takes : {s x r : List ℕ} → Run first next s x r → take_while next s ≡ x
  run_takes {s} {x} {r} h = rw h.split (take_run next x r h.only h.longest)

  pub run_drops : {s x r : List ℕ} → Run first next s x r → drop_while next s ≡ r
  run_drops {s} {x} {r} h = rw h.split (drop_run next x r h.only h.longest)

  -- two runs of one class from one text are one
  pub run_once : {s x r s' x' r' : List ℕ} → Run first next s x r → Run first next s' x' r' → s ≡ s' → (x ≡ x') × (r ≡ r')
  run_once h h' q = (sym (run_takes h) ∙ ap (take_while next) q ∙ run_takes h', sym (run_drops h) ∙ ap (drop_while next) q ∙ run_drops h')

  pub run_begins : {s x r : List ℕ} → Run first next s x r → begins first s ≡ true
  run_begins {s} {x} {r} h = rw h.split (front x h.begun)
    where
      front : (x : List ℕ) → begins first x ≡ true → begins first (x ++ r) ≡ true
      front [] k = absurd (both_ways false refl k)
      front (c ∷ x) k = k

-- what is behind the blanks
abbrev pub skip : List ℕ → List ℕ
skip s = drop_while blank s

pub skips : {s r : List ℕ} → Blanks s r → begins blank r ≡ false → skip s ≡ r
skips {s} {r} h e = rw h.split (drop_run blank h.skipped r h.only e)

pub skip_once : {s r s' r' : List ℕ} → Blanks s r → Blanks s' r' → begins blank r ≡ false → begins blank r' ≡ false → s ≡ s' → r ≡ r'
skip_once b b' e e' q = sym (skips b e) ∙ ap skip q ∙ skips b' e'
