-- Why a request is refused: each test by itself, and then all of them in their order.
-- The limits are those of a controller: 256 frames, 65,535 elements of a frame. Assumes nothing.
use Rattle.std.specs.Prelude.{ℕ, Bool, true, false, not, ◌&&◌, List, [], ◌∷◌, length, Some, None, Option, ◌==◌, nat_le, nat_lt}
use Rattle.words.specs.Refusals.{first_refusal, text_refusal, name_refusal}
use Rattle.words.specs.declared.refusal.Refusal.{Refusal as WordRefusal}
use Rattle.literals.specs.Bytes.{bytes_refusal}
use Rattle.literals.specs.Characters.{char_refusal}
use Rattle.literals.specs.Floats.{float_refusal}
use Rattle.model.specs.Refusals.{argument, first, refused_if, refused_unless}
use Rattle.model.specs.Requests.{Ticket, Value, none, a_bool, an_integer, a_float, a_char, a_str, bytes, unit, unit_struct, unit_variant, Opening, some, newtype_struct, newtype_variant, seq, tuple, tuple_struct, tuple_variant, Request, put, start, end, abandon, finish}
use Rattle.model.specs.States.{Table, Frame, Allowance, State}
use Rattle.model.specs.Spellings.{appended}
use Rattle.model.specs.declared.kind.Kind.{Kind}
use Rattle.model.specs.declared.kind.Kind.TheVariants as kinds
use Rattle.model.specs.declared.refusal.Refusal.{Refusal}
use Rattle.model.specs.declared.refusal.Refusal.TheVariants.{Filled, WrongTicket, EndedEmpty, Closed, Unfinished, ExceededRecursionLimit, TooManyFrames, TooManyElements, NoSpace}

-- kinds told apart by their place in the list of kinds
abbrev pub kind_place : Kind → ℕ
kind_place kinds.Some = 0
kind_place kinds.NewtypeStruct = 1
kind_place kinds.NewtypeVariant = 2
kind_place kinds.Seq = 3
kind_place kinds.Tuple = 4
kind_place kinds.TupleStruct = 5
kind_place kinds.TupleVariant = 6

-- these hold one value
abbrev pub single : Kind → Bool
single kinds.Some = true
single kinds.NewtypeStruct = true
single kinds.NewtypeVariant = true
single kinds.Seq = false
single kinds.Tuple = false
single kinds.TupleStruct = false
single kinds.TupleVariant = false

-- the ticket of a frame of this kind, with so many frames open
abbrev pub is_of : Kind → ℕ → Ticket → Bool
is_of k level t = kind_place t.kind == kind_place k && t.level == level

-- what is shown is the ticket of the innermost frame; where none is open, no ticket
abbrev pub shows : List Frame → Option Ticket → Bool
shows [] None = true
shows [] (Some t) = false
shows (f ∷ fs) None = false
shows (f ∷ fs) (Some t) = is_of f.kind (length (f ∷ fs)) t

abbrev pub most_elements : ℕ
most_elements = 65535

abbrev pub most_frames : ℕ
most_frames = 256

-- the place has its one value: the top, or a frame that holds one
abbrev pub has_value : List Frame → Bool → Bool
has_value [] filled = filled
has_value (f ∷ fs) filled = single f.kind && not (f.elements == 0)

-- the innermost frame takes another element
abbrev pub takes_element : List Frame → Bool
takes_element [] = true
takes_element (f ∷ fs) = nat_lt f.elements most_elements

-- inside a frame one of the allowance has to be left
abbrev pub allowed : List Frame → Option Allowance → Bool
allowed [] a = true
allowed (f ∷ fs) None = true
allowed (f ∷ fs) (Some a) = nat_lt 0 a.left

-- what a value or an opening is tested for before its arguments are
abbrev pub admission : State → Option Ticket → Option Refusal
admission s t =
    first (refused_if s.closed Closed)
    (first (refused_unless (shows s.frames t) WrongTicket)
    (first (refused_if (has_value s.frames s.filled) Filled)
    (first (refused_unless (takes_element s.frames) TooManyElements)
    (refused_unless (allowed s.frames s.allowance) ExceededRecursionLimit))))

-- two names: the type's before the variant's
abbrev pub names_refusal : Table → List ℕ → List ℕ → Option WordRefusal
names_refusal t name variant = first_refusal (name_refusal t.continues name) (name_refusal t.continues variant)

-- the arguments of a value
abbrev pub value_refusal : Table → Value → Option WordRefusal
value_refusal t none = None
value_refusal t (a_bool b) = None
value_refusal t (an_integer type n) = None
value_refusal t (a_float width x) = float_refusal x
value_refusal t (a_char c) = char_refusal c
value_refusal t (a_str x) = text_refusal x
value_refusal t (bytes x) = bytes_refusal x
value_refusal t unit = None
value_refusal t (unit_struct name) = name_refusal t.continues name
value_refusal t (unit_variant name variant) = names_refusal t name variant

-- the arguments of an opening: its names, whether they are written or not
abbrev pub opening_refusal : Table → Opening → Option WordRefusal
opening_refusal t some = None
opening_refusal t (newtype_struct name) = name_refusal t.continues name
opening_refusal t (newtype_variant name variant) = names_refusal t name variant
opening_refusal t (seq len) = None
opening_refusal t (tuple len) = None
opening_refusal t (tuple_struct name len) = name_refusal t.continues name
opening_refusal t (tuple_variant name variant len) = names_refusal t name variant

-- one more frame can be open
abbrev pub depth_refusal : State → Option Refusal
depth_refusal s = refused_unless (nat_lt (length s.frames) most_frames) TooManyFrames

-- the request's bytes exceed the space
abbrev pub space_refusal : State → Request → Option Refusal
space_refusal s r = refused_unless (nat_le (length (appended s r)) s.space) NoSpace

-- a frame that holds one value does not have it
abbrev pub lacks_value : List Frame → Bool
lacks_value [] = false
lacks_value (f ∷ fs) = single f.kind && f.elements == 0

-- a frame is open, or there is no value
abbrev pub unfinished : List Frame → Bool → Bool
unfinished [] filled = not filled
unfinished (f ∷ fs) filled = true

-- why a request is refused, if it is
abbrev pub refusal : State → Request → Option Refusal
refusal s (put t v) = first (admission s t) (first (argument (value_refusal s.table v)) (space_refusal s (put t v)))
refusal s (start t o) =
    first (admission s t)
    (first (argument (opening_refusal s.table o))
    (first (depth_refusal s) (space_refusal s (start t o))))
refusal s (end t) =
    first (refused_if s.closed Closed)
    (first (refused_unless (shows s.frames (Some t)) WrongTicket)
    (first (refused_if (lacks_value s.frames) EndedEmpty) (space_refusal s (end t))))
refusal s abandon = refused_if s.closed Closed
refusal s finish = first (refused_if s.closed Closed) (refused_if (unfinished s.frames s.filled) Unfinished)
