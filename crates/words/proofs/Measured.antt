-- What is measured before it is written goes into a sink as a whole.
use Rattle.std.proofs.Common.{◌≡◌, ℕ, ◌-◌, true, false, cond, leb, List, [], ◌++◌, length, is_ok, IsErrAnd, Some, None, Ok, Err, Option, Result, sym, refl, ap, ◌∙◌, arith, Bor}
use Rattle.std.proofs.lemmas.Result.{err_from_is_err_and}
use Rattle.output.specs.Sinks.{Steady, Appended}
use Rattle.output.proofs.Pieces.{puts_value, puts_whole}
use Rattle.words.specs.Refusals.{unless}
use Rattle.words.specs.Whole.{Whole, refused_or_short, Shown}
use Rattle.words.specs.Writes.{Writes}
use Rattle.words.specs.declared.refusal.Refusal.{Refusal}
use Rattle.words.specs.declared.refusal.Refusal.TheVariants.{NoSpace}

-- what the gauge refuses is refused
pub refusal_is : {Y : Type 0} {room : Y → ℕ} {took : Y → List ℕ → Y → Type 0} (o : Option Refusal) {g h : Y} {x : List ℕ} {e : Refusal} (n : ℕ) → room g ≡ n → Writes room took o g x (Err e) h
    → ◌≡◌ {A = Result (Unit {0}) Refusal} (Err e) (unless (refused_or_short o x n) tt)
refusal_is (Some f) n q w = (w.refused f refl).0
refusal_is None {x = x} n q w =
    let short : leb (length x) n ≡ false = ap (leb (length x)) (sym q) ∙ sym (puts_value (w.puts refl)) in
    w.short refl refl ∙ ap (λ t. unless (cond t None (Some NoSpace)) tt) (sym short)

module _ {X : Type 0} {text : X → List ℕ} {space : X → ℕ} {keeps : X → X → Type 0} where
  unwritten : (o : Option Refusal) {a : X} {x : List ℕ} {e : Refusal} {r : Result (Unit {0}) Refusal} → Steady keeps → r ≡ Err e → ◌≡◌ {A = Result (Unit {0}) Refusal} (Err e) (unless (refused_or_short o x (space a)) tt) → Whole text space keeps o a x r a
  unwritten o {a = a} {x = x} {r = r} steady p v =
      let no : is_ok r ≡ false = ap is_ok p in
      record {
        value = p ∙ v;
        after = sym (ap (λ t. cond t (text a ++ x) (text a)) no);
        left = sym (ap (λ t. cond t (space a - length x) (space a)) no);
        kept = steady.same a;
        same = λ _. refl;
      }

module _ {X Y : Type 0} {text : X → List ℕ} {space : X → ℕ} {keeps : X → X → Type 0} {room : Y → ℕ} {took : Y → List ℕ → Y → Type 0} where
  pub refused_whole : {o : Option Refusal} {g h : Y} {a : X} {x : List ℕ} {e : Refusal} {r : Result (Unit {0}) Refusal} → Steady keeps → room g ≡ space a → Writes room took o g x (Err e) h → r ≡ Err e → Whole text space keeps o a x r a
  refused_whole {o = o} {a = a} steady q w p = unwritten o steady p (refusal_is o (space a) q w)

-- what is shown of a text that is refused
pub shown_refused : (o : Option Refusal) (x : List ℕ) (s : Result (Bor (List ℕ)) Refusal) (e : Refusal) → IsErrAnd s (λ y. y ≡ e) → ◌≡◌ {A = Result (Unit {0}) Refusal} (Err e) (unless o tt) → Shown o x s
shown_refused o x s e h k = let p = err_from_is_err_and s h in step o s (p.1 ∙ ap Err p.2) k
  where
    step : (o : Option Refusal) (s : Result (Bor (List ℕ)) Refusal) → s ≡ Err e → ◌≡◌ {A = Result (Unit {0}) Refusal} (Err e) (unless o tt) → Shown o x s
    step o (Ok part) q k = let z : ◌≡◌ {A = ℕ} 0 1 = cc q in absurd (omega arith)
    step None (Err d) q k = let z : ◌≡◌ {A = ℕ} 0 1 = cc k in absurd (omega arith)
    step (Some f) (Err d) q k = cc (q, k)

-- and of one that is written into an empty sink
module _ {X : Type 0} {text : X → List ℕ} {space : X → ℕ} {keeps : X → X → Type 0} where
  pub written_whole : (o : Option Refusal) {a b : X} {x : List ℕ} {u : Unit {0}} (n : ℕ) → space a ≡ n → text a ≡ [] → Writes space (Appended text keeps) o a x (Ok u) b → (refused_or_short o x n ≡ None) × (text b ≡ x)
  written_whole (Some e) n q h w = let z : ◌≡◌ {A = ℕ} 0 1 = cc (w.refused e refl).0 in absurd (omega arith)
  written_whole None {x = x} n q h w =
      let fits : leb (length x) n ≡ true = ap (leb (length x)) (sym q) ∙ sym (puts_value (w.puts refl)) in
      (ap (λ t. cond t None (Some NoSpace)) fits, (puts_whole (w.puts refl)).grown ∙ ap (λ z. z ++ x) h)
