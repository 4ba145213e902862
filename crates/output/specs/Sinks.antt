-- What a sink is known by: `Steady` are the laws of what no call changes.
-- `Appended` says that a sink's text grew by some bytes, and that all else is as it was.
use Rattle.std.specs.Prelude.{◌≡◌, ℕ, List, ◌++◌}

-- a relation that holds of a thing and itself, and over two steps if it holds over each
pub record Steady {X : Type 0} (keeps : X → X → Type 0) : Type 0 where
  pub same : (a : X) → keeps a a
  pub then : (a b c : X) → keeps a b → keeps b c → keeps a c

-- b is a with the bytes x behind its text
pub record Appended {X : Type 0} (text : X → List ℕ) (keeps : X → X → Type 0) (a : X) (x : List ℕ) (b : X) : Type 0 where
  pub grown : text b ≡ text a ++ x
  pub kept : keeps a b
