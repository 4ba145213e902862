-- Bytes that go into a sink as a whole: all of them, or a refusal and none.
-- Assumes nothing.
use Rattle.std.specs.Prelude.{◌≡◌, ℕ, ◌-◌, false, cond, List, ◌++◌, length, is_ok, Some, None, Ok, Err, Option, Result, nat_le}
use Rattle.std.specs.Borrow.{Bor}
use Rattle.words.specs.Refusals.{first_refusal, refused_unless, unless}
use Rattle.words.specs.declared.refusal.Refusal.{Refusal}
use Rattle.words.specs.declared.refusal.Refusal.TheVariants.{NoSpace}

-- refused for another reason, or else since the bytes exceed the space
abbrev pub refused_or_short : Option Refusal → List ℕ → ℕ → Option Refusal
refused_or_short o x space = first_refusal o (refused_unless (nat_le (length x) space) NoSpace)

pub record Whole {X : Type 0} (text : X → List ℕ) (space : X → ℕ) (keeps : X → X → Type 0) (o : Option Refusal) (a : X) (x : List ℕ) (r : Result (Unit {0}) Refusal) (b : X) : Type 0 where
  pub value : r ≡ unless (refused_or_short o x (space a)) tt
  pub after : text b ≡ cond (is_ok r) (text a ++ x) (text a)
  pub left : space b ≡ cond (is_ok r) (space a - length x) (space a)
  pub kept : keeps a b
  pub same : is_ok r ≡ false → b ≡ a

-- what is shown of a text: the whole of it, or why not
abbrev pub Shown : Option Refusal → List ℕ → Result (Bor (List ℕ)) Refusal → Type 0
Shown o x (Ok part) = (o ≡ None) × (part.now ≡ x)
Shown o x (Err e) = o ≡ Some e
