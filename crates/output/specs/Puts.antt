-- What it means that an output was given bytes: `Puts`, of the output before, the bytes, the answer and the output after.
-- `Adds` are the laws of taking that let the bytes of one call be joined with those of the next.
use Rattle.std.specs.Prelude.{◌≡◌, ℕ, ◌+◌, ◌<◌, Bool, true, false, List, [], ◌++◌, length}

-- taking nothing changes nothing, and taking x and then y is taking x followed by y
pub record Adds {X : Type 0} (took : X → List ℕ → X → Type 0) : Type 0 where
  pub none : (a : X) → took a [] a
  pub more : (a b c : X) (x y : List ℕ) → took a x b → took b y c → took a (x ++ y) c

-- the output a was given the bytes x, answered r, and is b now: it took a front part of x, all of it if r is true
pub record Puts {X : Type 0} (room : X → ℕ) (took : X → List ℕ → X → Type 0) (a : X) (x : List ℕ) (r : Bool) (b : X) : Type 0 where
  -- the bytes that were taken
  pub front : List ℕ
  -- the bytes that were not
  pub back : List ℕ
  -- together they are the bytes that were given
  pub parts : x ≡ front ++ back
  -- b is a with the front part taken
  pub taken : took a front b
  -- each byte taken uses up one of the room
  pub left : length front + room b ≡ room a
  -- where the answer is true nothing is left over
  pub whole : r ≡ true → back ≡ []
  -- where it is false, what is left over does not fit the room that is left
  pub short : r ≡ false → room b < length back
