-- Words one after another in a row, the second of them only where the first was accepted.
use Rattle.std.proofs.Common.{◌≡◌, ℕ, true, false, List, [], ◌∷◌, ◌++◌, is_err, Some, None, Ok, Option, Result, sym, refl, subst, arith}
use Rattle.std.proofs.lemmas.Grind.{common_steps}
use Rattle.output.specs.Puts.{Adds, Puts}
use Rattle.words.specs.Refusals.{unless}
use Rattle.words.proofs.Writing.{writes_ok, writes_then, writes_bytes}
use Rattle.words.specs.Writes.{Writes}
use Rattle.words.specs.declared.refusal.Refusal.{Refusal}
use Rattle.batch_names.specs.Forms.{line_unless}
use Rattle.inputs.specs.Lines.{LF}

module _ {X : Type 0} {room : X → ℕ} {took : X → List ℕ → X → Type 0} where
  -- where a word was written, another is not refused for the same reason
  pub writes_next : (o : Option Refusal) {a b c d : X} {x y : List ℕ} {u : Unit {0}} {r : Result (Unit {0}) Refusal} → Writes room took o a x (Ok u) b → Writes room took o c y r d → Writes room took None c y r d
  writes_next o {c = c} {d = d} {y = y} {r = r} w v = subst (λ p. Writes room took p c y r d) (writes_ok o w) v

  -- a word, the line feed behind it, and the lines that follow
  pub line_then : {o : Option Refusal} {a b c d : X} {x y : List ℕ} {u : Unit {0}} {r : Result (Unit {0}) Refusal} → Adds took → Writes room took o a x (Ok u) b → Puts room took b (LF ∷ []) true c → Writes room took None c y r d → Writes room took o a (x ++ LF ∷ y) r d
  line_then laws w p v = writes_then laws w (writes_then laws (writes_bytes p) v)

  -- a line that is not left out
  pub writes_line : {o : Option Refusal} {a b : X} (x : List ℕ) {r : Result (Unit {0}) Refusal} → o ≡ None → Writes room took None a (x ++ LF ∷ []) r b → Writes room took None a (line_unless o x) r b
  writes_line {a = a} {b = b} x {r = r} e w = subst (λ p. Writes room took None a (line_unless p x) r b) (sym e) w

-- what is no name is left out, and a name is not
pub left_out : (o : Option Refusal) (r : Result (Unit {0}) Refusal) (x : List ℕ) → r ≡ unless o tt → true ≡ is_err r → [] ≡ line_unless o x
left_out None r x e h = grind (arith, common_steps)
left_out (Some y) r x e h = refl

pub not_left_out : (o : Option Refusal) (r : Result (Unit {0}) Refusal) → r ≡ unless o tt → false ≡ is_err r → o ≡ None
not_left_out None r e h = refl
not_left_out (Some y) r e h = grind (arith, common_steps)
