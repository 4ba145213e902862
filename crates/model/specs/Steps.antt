-- What a request does to a document, and what it answers. A refused request changes nothing.
-- After the methods of `Serializer` in src/ser/mod.rs of ron 0.12.3. Assumes nothing.
use Rattle.std.specs.Prelude.{ℕ, suc, ◌+◌, ◌-◌, true, cond, List, ◌∷◌, ◌++◌, length, Option}
use Rattle.std.specs.Option.{option_map}
use Rattle.model.specs.Refusals.{unless}
use Rattle.model.specs.Settings.{Settings, on}
use Rattle.model.specs.Requests.{Ticket, Value, none, a_bool, an_integer, a_float, a_char, a_str, bytes, unit, unit_struct, unit_variant, Opening, kind_of, announced, Request, put, start, end, abandon, finish}
use Rattle.model.specs.States.{Allowance, State, fresh, counted, below, taken, returned, touched}
use Rattle.model.specs.Heads.{silent}
use Rattle.model.specs.Layouts.{entered, left}
use Rattle.model.specs.Spellings.{appended}
use Rattle.model.specs.Places.{refusal}
use Rattle.model.specs.declared.kind.Kind.{Kind}
use Rattle.model.specs.declared.kind.Kind.TheVariants as kinds
use Rattle.model.specs.declared.refusal.Refusal.{Refusal}

-- None sets `implicit_some_depth` to 0; the other values leave it
abbrev pub depth_past : Value → ℕ → ℕ
depth_past none depth = 0
depth_past (a_bool b) depth = depth
depth_past (an_integer type n) depth = depth
depth_past (a_float width x) depth = depth
depth_past (a_char c) depth = depth
depth_past (a_str x) depth = depth
depth_past (bytes x) depth = depth
depth_past unit depth = depth
depth_past (unit_struct name) depth = depth
depth_past (unit_variant name variant) depth = depth

-- a silent Some adds 1 to it, and a silent newtype leaves it; the openings that write a bracket set it to 0, but for Some
abbrev pub depth_inside : Settings → Kind → ℕ → ℕ
depth_inside s kinds.Some depth = cond (silent (on s) kinds.Some) (suc depth) depth
depth_inside s kinds.NewtypeStruct depth = cond (silent (on s) kinds.NewtypeStruct) depth 0
depth_inside s kinds.NewtypeVariant depth = 0
depth_inside s kinds.Seq depth = 0
depth_inside s kinds.Tuple depth = 0
depth_inside s kinds.TupleStruct depth = 0
depth_inside s kinds.TupleVariant depth = 0

-- the end of a silent Some sets it to 0; the other ends leave it
abbrev pub depth_outside : Settings → Kind → ℕ → ℕ
depth_outside s kinds.Some depth = cond (silent (on s) kinds.Some) 0 depth
depth_outside s kinds.NewtypeStruct depth = depth
depth_outside s kinds.NewtypeVariant depth = depth
depth_outside s kinds.Seq depth = depth
depth_outside s kinds.Tuple depth = depth
depth_outside s kinds.TupleStruct depth = depth
depth_outside s kinds.TupleVariant depth = depth

-- a value is one more element
abbrev pub with_value : State → List ℕ → Value → State
with_value s x v = record {
  table = s.table;
  settings = s.settings;
  closed = s.closed;
  frames = counted s.frames;
  filled = true;
  layout = s.layout;
  implicit_some_depth = depth_past v s.implicit_some_depth;
  allowance = touched s.frames s.allowance;
  text = s.text ++ x;
  space = s.space - length x;
}

-- an opening is one more element, and a new frame
abbrev pub with_frame : State → List ℕ → Opening → State
with_frame s x o = record {
  table = s.table;
  settings = s.settings;
  closed = s.closed;
  frames = fresh (kind_of o) ∷ counted s.frames;
  filled = true;
  layout = entered s.settings.config (kind_of o) (announced o) s.layout;
  implicit_some_depth = depth_inside s.settings (kind_of o) s.implicit_some_depth;
  allowance = taken s.frames s.allowance;
  text = s.text ++ x;
  space = s.space - length x;
}

-- an end takes the innermost frame off, which has this kind
abbrev pub without_frame : State → List ℕ → Kind → State
without_frame s x k = record {
  table = s.table;
  settings = s.settings;
  closed = s.closed;
  frames = below s.frames;
  filled = s.filled;
  layout = left s.settings.config k s.layout;
  implicit_some_depth = depth_outside s.settings k s.implicit_some_depth;
  allowance = returned (below s.frames) s.allowance;
  text = s.text ++ x;
  space = s.space - length x;
}

-- abandon and finish close the document
abbrev pub shut : State → State
shut s = record {
  table = s.table;
  settings = s.settings;
  closed = true;
  frames = s.frames;
  filled = s.filled;
  layout = s.layout;
  implicit_some_depth = s.implicit_some_depth;
  allowance = s.allowance;
  text = s.text;
  space = s.space;
}

-- what an accepted request does; an end shows the ticket of the innermost frame, so its kind is that frame's
abbrev pub effect : State → Request → State
effect s (put t v) = with_value s (appended s (put t v)) v
effect s (start t o) = with_frame s (appended s (start t o)) o
effect s (end t) = without_frame s (appended s (end t)) t.kind
effect s abandon = shut s
effect s finish = shut s

-- the state after a request
abbrev pub next : State → Request → State
next s r = unless (refusal s r) (effect s r) (λ e. s)

-- what a request answers
pub data Answer : Type 0 where
  done : Answer
  opened : Ticket → Answer
  finished : (text_length : ℕ) (least : Option ℕ) → Answer
  refused : Refusal → Answer
  -- a refused end hands its ticket back
  handed_back : Refusal → Ticket → Answer

-- the least that was left of the allowance, if there is a limit
abbrev pub least_of : Option Allowance → Option ℕ
least_of a = option_map (λ b. b.least) a

-- what an accepted request answers
abbrev pub yield : State → Request → Answer
yield s (put t v) = done
yield s (start t o) = opened (record { kind = kind_of o; level = length s.frames + 1 })
yield s (end t) = done
yield s abandon = done
yield s finish = finished (length s.text) (least_of s.allowance)

-- what a refused request answers; a closed document keeps the ticket of an end
abbrev pub refuse : State → Request → Refusal → Answer
refuse s (put t v) e = refused e
refuse s (start t o) e = refused e
refuse s (end t) e = cond s.closed (refused e) (handed_back e t)
refuse s abandon e = refused e
refuse s finish e = refused e

abbrev pub answer : State → Request → Answer
answer s r = unless (refusal s r) (yield s r) (refuse s r)
