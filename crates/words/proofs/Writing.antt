-- Words one after another: the first that is refused, or that does not fit, ends the row.
use Rattle.std.proofs.Common.{◌≡◌, ℕ, true, false, List, ◌++◌, is_ok, IsErrAnd, Some, None, Ok, Err, Option, Result, sym, refl, ap, ◌∙◌, subst, arith}
use Rattle.std.proofs.lemmas.Result.{err_from_is_err_and}
use Rattle.std.proofs.lemmas.Bool.{true≢false}
use Rattle.output.specs.Puts.{Adds, Puts}
use Rattle.output.proofs.Pieces.{puts_then, puts_stop}
use Rattle.words.specs.Refusals.{first_refusal, unless}
use Rattle.words.specs.Writes.{Writes}
use Rattle.words.specs.declared.refusal.Refusal.{Refusal}
use Rattle.words.specs.declared.refusal.Refusal.TheVariants.{NoSpace}

module _ {X : Type 0} {room : X → ℕ} {took : X → List ℕ → X → Type 0} where
  -- one word after another
  pub writes_then : {o : Option Refusal} {a b c : X} {x y : List ℕ} {u : Unit {0}} {r : Result (Unit {0}) Refusal} → Adds took → Writes room took o a x (Ok u) b → Writes room took None b y r c → Writes room took o a (x ++ y) r c
  writes_then laws w v = record {
    refused = λ e q. let z : ◌≡◌ {A = ℕ} 0 1 = cc (w.refused e q).0 in absurd (omega arith);
    puts = λ q. puts_then laws (w.puts q) (v.puts refl);
    short = λ q. v.short refl;
  }

  -- what was to follow a word that is refused or does not fit is not written
  pub writes_stop : {o : Option Refusal} {a b : X} {x : List ℕ} (y : List ℕ) {e : Refusal} {r : Result (Unit {0}) Refusal} → r ≡ Err e → Writes room took o a x (Err e) b → Writes room took o a (x ++ y) r b
  writes_stop {a = a} {b = b} {x = x} y q w = record {
    refused = λ f p. (q ∙ (w.refused f p).0, (w.refused f p).1);
    puts = λ p. subst (λ v. Puts room took a (x ++ y) (is_ok v) b) (sym q) (puts_stop y (w.puts p));
    short = λ p h. q ∙ w.short p refl;
  }

  -- bytes that are put as they are, and where they do not fit
  pub writes_bytes : {a b : X} {x : List ℕ} {u : Unit {0}} → Puts room took a x true b → Writes room took None a x (Ok u) b
  writes_bytes p = record {
    refused = λ e q. let z : ◌≡◌ {A = ℕ} 0 1 = cc q in absurd (omega arith);
    puts = λ q. p;
    short = λ q h. absurd (true≢false h);
  }

  pub writes_short : {a b : X} {x : List ℕ} {r : Result (Unit {0}) Refusal} → r ≡ Err NoSpace → Puts room took a x false b → Writes room took None a x r b
  writes_short {a = a} {b = b} {x = x} e p = record {
    refused = λ f q. let z : ◌≡◌ {A = ℕ} 0 1 = cc q in absurd (omega arith);
    puts = λ q. subst (λ v. Puts room took a x (is_ok v) b) (sym e) p;
    short = λ q h. e;
  }

  -- what nothing refuses
  pub writes_accepted : {o : Option Refusal} {a b : X} {x : List ℕ} {r : Result (Unit {0}) Refusal} → o ≡ None → Writes room took None a x r b → Writes room took o a x r b
  writes_accepted {a = a} {b = b} {x = x} {r = r} e w = subst (λ o. Writes room took o a x r b) (sym e) w

  pub writes_plain : {o : Option Refusal} {a b : X} {x : List ℕ} {r : Result (Unit {0}) Refusal} → o ≡ None → Writes room took o a x r b → Writes room took None a x r b
  writes_plain {a = a} {b = b} {x = x} {r = r} e w = subst (λ o. Writes room took o a x r b) e w

  -- a word that was written was not refused
  pub writes_ok : (o : Option Refusal) {a b : X} {x : List ℕ} {u : Unit {0}} → Writes room took o a x (Ok u) b → o ≡ None
  writes_ok None w = refl
  writes_ok (Some e) w = let z : ◌≡◌ {A = ℕ} 0 1 = cc (w.refused e refl).0 in absurd (omega arith)

  -- a word that is not written since another reason comes first, and one that it does not stop
  pub writes_refused : (o p : Option Refusal) {a : X} {x : List ℕ} {e : Refusal} {r : Result (Unit {0}) Refusal} → ◌≡◌ {A = Result (Unit {0}) Refusal} (Err e) (unless o tt) → r ≡ Err e → Writes room took (first_refusal o p) a x r a
  writes_refused None p h q = let z : ◌≡◌ {A = ℕ} 0 1 = cc h in absurd (omega arith)
  writes_refused (Some f) p h q = record {
    refused = λ g k. (cc (h, q, k), refl);
    puts = λ k. let z : ◌≡◌ {A = ℕ} 0 1 = cc k in absurd (omega arith);
    short = λ k. let z : ◌≡◌ {A = ℕ} 0 1 = cc k in absurd (omega arith);
  }

  pub writes_behind : (o p : Option Refusal) {a b : X} {x : List ℕ} {u : Unit {0}} {r : Result (Unit {0}) Refusal} → ◌≡◌ {A = Result (Unit {0}) Refusal} (Ok u) (unless o tt) → Writes room took p a x r b → Writes room took (first_refusal o p) a x r b
  writes_behind None p h w = w
  writes_behind (Some e) p h w = let z : ◌≡◌ {A = ℕ} 0 1 = cc h in absurd (omega arith)

-- at the exit of a `?`: the error that is returned
pub exits : (s : Result (Unit {0}) Refusal) (e : Refusal) → IsErrAnd s (λ y. y ≡ e) → s ≡ Err e
exits s e h = let p = err_from_is_err_and s h in p.1 ∙ ap Err p.2
