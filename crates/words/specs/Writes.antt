-- What it means that a word was written: refused it leaves the output as it was, else its bytes go out if they fit.
-- Assumes nothing.
use Rattle.std.specs.Prelude.{◌≡◌, ℕ, false, List, is_ok, Some, None, Err, Option, Result}
use Rattle.output.specs.Puts.{Puts}
use Rattle.words.specs.declared.refusal.Refusal.{Refusal}
use Rattle.words.specs.declared.refusal.Refusal.TheVariants.{NoSpace}

pub record Writes {X : Type 0} (room : X → ℕ) (took : X → List ℕ → X → Type 0) (o : Option Refusal) (a : X) (x : List ℕ) (r : Result (Unit {0}) Refusal) (b : X) : Type 0 where
  -- refused for its arguments, it says so and leaves the output as it was
  pub refused : (e : Refusal) → o ≡ Some e → (r ≡ Err e) × (b ≡ a)
  -- else its bytes are put
  pub puts : o ≡ None → Puts room took a x (is_ok r) b
  -- and where they do not fit it says so
  pub short : o ≡ None → is_ok r ≡ false → r ≡ Err NoSpace
