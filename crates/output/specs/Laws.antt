-- The laws of taking bytes, of whatever takes them by using up room, and of whatever grows a text by them, each with its proof.
-- They stand here since the implementations of `Output` name them. Assumes nothing.
use Rattle.std.specs.Prelude.{◌≡◌, ℕ, ◌+◌, List, ◌++◌, length}
use Rattle.std.proofs.Common.{append-nil, append_assoc, sym, ap, ◌∙◌, arith, length-append}
use Rattle.output.specs.Puts.{Adds}
use Rattle.output.specs.Sinks.{Steady, Appended}

-- to use up room is to take bytes
pub used_adds : {X : Type 0} (room : X → ℕ) → Adds (λ (a : X) (x : List ℕ) (b : X). length x + room b ≡ room a)
used_adds room = record {
  none = λ a. omega arith;
  more = λ a b c x y p q. omega (arith, length-append x y);
}

-- to grow a text is to take bytes
pub appended_adds : {X : Type 0} (text : X → List ℕ) (keeps : X → X → Type 0) → Steady keeps → Adds (Appended text keeps)
appended_adds text keeps s = record {
  none = λ a. record { grown = sym (append-nil (text a)); kept = s.same a };
  more = λ a b c x y p q. record {
    grown = q.grown ∙ ap (λ (t : List ℕ). t ++ y) p.grown ∙ append_assoc (text a) x y;
    kept = s.then a b c p.kept q.kept;
  };
}
