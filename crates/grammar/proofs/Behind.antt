-- What may stand behind an item: blanks, and then a comma, a closing bracket or the end; behind a name an opening bracket too.
-- Assumes nothing.
use Rattle.std.proofs.Common.{◌≡◌, ℕ, Bool, true, false, List, [], ◌∷◌, refl}
use Rattle.std.proofs.lemmas.Bool.{both_ways}
use Rattle.chars.specs.Blanks.{none_in}
use Rattle.chars.proofs.Apart.{not_in}
use Rattle.chars.specs.Blanks.{among, blank}
use Rattle.grammar.specs.Trees.{Trees}
use Rattle.grammar.specs.Tokens.{begins, Blanks}
use Rattle.grammar.specs.Items.{Bracket, square, round, closing, More, no_more, comma}
use Rattle.grammar.proofs.Runs.{apart, skip, skips}

-- what is in a set with none of a list is not in the list
pub not_among : (p : ℕ → Bool) (ds : List ℕ) (c : ℕ) → none_in p ds ≡ true → p c ≡ true → among ds c ≡ false
not_among p ds c n h = step (among ds c) refl
  where
    step : (b : Bool) → among ds c ≡ b → among ds c ≡ false
    step false e = e
    step true e = absurd (both_ways (p c) (not_in p ds c n e) h)

-- comma and closing brackets
abbrev pub closers : List ℕ
closers = 0x2C ∷ 0x5D ∷ 0x29 ∷ []

abbrev at_end : (ℕ → Bool) → List ℕ → Bool
at_end p [] = true
at_end p (c ∷ s) = p c

abbrev pub after : List ℕ → Bool
after r = at_end (among closers) (skip r)

abbrev pub after_name : List ℕ → Bool
after_name r = at_end (among (0x28 ∷ closers)) (skip r)

pub after_goes : (r : List ℕ) → after r ≡ true → after_name r ≡ true
after_goes r h = step (skip r) h
  where
    step : (s : List ℕ) → at_end (among closers) s ≡ true → at_end (among (0x28 ∷ closers)) s ≡ true
    step [] k = refl
    step (c ∷ s) k = rw (apart (among closers) c 0x28 k refl) k

pub no_open : (r : List ℕ) → after r ≡ true → begins (among (0x28 ∷ [])) (skip r) ≡ false
no_open r h = step (skip r) h
  where
    step : (s : List ℕ) → at_end (among closers) s ≡ true → begins (among (0x28 ∷ [])) s ≡ false
    step [] k = refl
    step (c ∷ s) k = rw (apart (among closers) c 0x28 k refl)

-- a run of a class without blanks, commas and brackets is over there
pub over : (p : ℕ → Bool) (r : List ℕ) → ((c : ℕ) → blank c ≡ true → p c ≡ false) → none_in p (0x28 ∷ closers) ≡ true → after_name r ≡ true → begins p r ≡ false
over p [] n m h = refl
over p (c ∷ r) n m h = step (blank c) refl
  where
    step : (b : Bool) → blank c ≡ b → p c ≡ false
    step true e = n c e
    step false e = not_in p (0x28 ∷ closers) c m (rw e at h)

pub after_blanks : {s r : List ℕ} {c : ℕ} → Blanks s (c ∷ r) → among closers c ≡ true → after s ≡ true
after_blanks {s} {r} {c} b h = rw (skips b (not_in blank closers c refl h)) h

pub after_nothing : {s : List ℕ} → Blanks s [] → after s ≡ true
after_nothing b = rw (skips b refl)

closing_closes : (b : Bracket) → among closers (closing b) ≡ true
closing_closes square = refl
closing_closes round = refl

pub after_more : {starts continues : ℕ → Bool} {b : Bracket} {s r : List ℕ} {ts : Trees} → More starts continues b s ts r → after s ≡ true
after_more (no_more {b} k) = after_blanks k (closing_closes b)
after_more (comma k i) = after_blanks k refl
