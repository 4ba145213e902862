-- What a document is at each moment, and what of it an element or a frame changes.
-- After `Serializer` and `Compound` of src/ser/mod.rs of ron 0.12.3, with the open frames in one stack. Assumes nothing.
use Rattle.std.specs.Prelude.{ℕ, ◌+◌, ◌-◌, min, Bool, List, [], ◌∷◌, Some, None, Option}
use Rattle.model.specs.Settings.{Settings}
use Rattle.model.specs.declared.kind.Kind.{Kind}

-- the three sets of a character table
pub record Table : Type 0 where
  pub starts : ℕ → Bool
  pub continues : ℕ → Bool
  pub shown : ℕ → Bool

-- an open frame, with how many elements were begun in it
pub record Frame : Type 0 where
  pub kind : Kind
  pub elements : ℕ

-- how many wide frames are open, and whether the last one that announced a length announced 0
pub record Layout : Type 0 where
  pub indent : ℕ
  pub is_empty : Option Bool

-- how much of the recursion limit is left, and the least that was left so far
pub record Allowance : Type 0 where
  pub left : ℕ
  pub least : ℕ

pub record State : Type 0 where
  pub table : Table
  pub settings : Settings
  pub closed : Bool
  -- the open frames, the innermost first
  pub frames : List Frame
  -- an item stands at the top, or was begun there
  pub filled : Bool
  pub layout : Layout
  -- how many silent Somes wait for a value
  pub implicit_some_depth : ℕ
  -- none without a limit
  pub allowance : Option Allowance
  -- what this document appended, and how much more its sink takes
  pub text : List ℕ
  pub space : ℕ

-- a frame that has just been opened
abbrev pub fresh : Kind → Frame
fresh k = record { kind = k; elements = 0 }

-- one more element in the innermost frame
abbrev pub counted : List Frame → List Frame
counted [] = []
counted (f ∷ fs) = record { kind = f.kind; elements = f.elements + 1 } ∷ fs

-- the frames without the innermost
abbrev pub below : List Frame → List Frame
below [] = []
below (f ∷ fs) = fs

-- inside a frame, what is opened takes one of the allowance
abbrev pub taken : List Frame → Option Allowance → Option Allowance
taken [] a = a
taken (f ∷ fs) None = None
taken (f ∷ fs) (Some a) = Some (record { left = a.left - 1; least = min a.least (a.left - 1) })

-- inside a frame, what is ended returns it
abbrev pub returned : List Frame → Option Allowance → Option Allowance
returned [] a = a
returned (f ∷ fs) None = None
returned (f ∷ fs) (Some a) = Some (record { left = a.left + 1; least = a.least })

-- inside a frame, a value takes one and returns it: only the least may fall
abbrev pub touched : List Frame → Option Allowance → Option Allowance
touched [] a = a
touched (f ∷ fs) None = None
touched (f ∷ fs) (Some a) = Some (record { left = a.left; least = min a.least (a.left - 1) })
