-- What holds of every run besides how its text reads: why a request is refused, told by the calls that were accepted before it, and what frames, space and allowance are left.
-- Calls stand in lists with the newest first. Assumes nothing.
use Rattle.std.specs.Prelude.{◌≡◌, ℕ, suc, ◌+◌, ◌-◌, ◌<◌, max, Bool, true, false, not, ◌&&◌, ◌⊎◌, ◌↔◌, List, [], ◌∷◌, ◌++◌, length, is_some, Some, None, Option, nat_eq, nat_lt}
use Rattle.std.proofs.Common.{inl, inr}
use Rattle.std.specs.Option.{option_map}
use Rattle.grammar.specs.Trees.{Tree}
use Rattle.model.specs.Refusals.{argument, first, refused_if, refused_unless}
use Rattle.model.specs.Settings.{Settings}
use Rattle.model.specs.Requests.{Ticket, Value, none, Opening, kind_of, Request, put, start, end, abandon, finish, Call, value, opening, ending, abandoning, finishing}
use Rattle.model.specs.States.{Table, State}
use Rattle.model.specs.Beginnings.{beginning_refusal, begun}
use Rattle.model.specs.Places.{single, shows, has_value, takes_element, admission, value_refusal, opening_refusal, depth_refusal, lacks_value, refusal}
use Rattle.model.specs.Spellings.{none_bytes, lead, appended}
use Rattle.model.specs.Steps.{next, finished, answer}
use Rattle.model.specs.Making.{Held, Made, silent_somes, made, writes_alone}
use Rattle.model.specs.Runs.{Run, reached, document_text, accepted, style}
use Rattle.model.specs.Promises.{Finishes}
use Rattle.model.specs.declared.refusal.Refusal.{Refusal}
use Rattle.model.specs.declared.refusal.Refusal.TheVariants.{Filled, WrongTicket, EndedEmpty, Closed, ExceededRecursionLimit, TooManyFrames, TooManyElements, NoSpace}

-- how many openings are among the calls
abbrev pub openings : List Call → ℕ
openings [] = 0
openings (value v ∷ cs) = openings cs
openings (opening o ∷ cs) = suc (openings cs)
openings (ending ∷ cs) = openings cs
openings (abandoning ∷ cs) = openings cs
openings (finishing ∷ cs) = openings cs

-- how many ends
abbrev pub endings : List Call → ℕ
endings [] = 0
endings (value v ∷ cs) = endings cs
endings (opening o ∷ cs) = endings cs
endings (ending ∷ cs) = suc (endings cs)
endings (abandoning ∷ cs) = endings cs
endings (finishing ∷ cs) = endings cs

-- how many frames the calls leave open
abbrev pub left_open : List Call → ℕ
left_open cs = openings cs - endings cs

-- the most frames that stand around any value or opening among the calls
abbrev pub deepest : List Call → ℕ
deepest [] = 0
deepest (value v ∷ cs) = max (left_open cs) (deepest cs)
deepest (opening o ∷ cs) = max (left_open cs) (deepest cs)
deepest (ending ∷ cs) = deepest cs
deepest (abandoning ∷ cs) = deepest cs
deepest (finishing ∷ cs) = deepest cs

-- so many frames are more than the limit, if there is one
abbrev pub exceeds : Option ℕ → ℕ → Bool
exceeds None n = false
exceeds (Some limit) n = nat_lt limit n

abbrev pub has_item : List Tree → Bool
has_item [] = false
has_item (t ∷ ts) = true

-- the place has its one value: the top, or an innermost frame that holds one
abbrev pub full : List Held → List Tree → Bool
full [] top = has_item top
full (h ∷ hs) top = single (kind_of h.opener) && has_item h.items

abbrev pub place_full : Made → Bool
place_full m = full m.frames m.top

-- the innermost frame holds one value and has none
abbrev pub lacks : List Held → Bool
lacks [] = false
lacks (h ∷ hs) = single (kind_of h.opener) && not (has_item h.items)

abbrev pub frame_lacks : Made → Bool
frame_lacks m = lacks m.frames

-- how many items the innermost frame has
abbrev pub items_inside : List Held → ℕ
items_inside [] = 0
items_inside (h ∷ hs) = length h.items

abbrev pub frame_items : Made → ℕ
frame_items m = items_inside m.frames

-- more frames stand open than the recursion limit
abbrev pub PastLimit : Run → Type 0
PastLimit run = exceeds run.settings.recursion_limit (left_open (accepted run)) ≡ true

-- a test holds of what the accepted calls made
abbrev pub MadeSo : Run → (Made → Bool) → Type 0
MadeSo run test = option_map test (made (style run) (accepted run)) ≡ Some true

-- a value or an opening, with the ticket that it shows
abbrev pub asked : Option Ticket → Value ⊎ Opening → Request
asked t (inl v) = put t v
asked t (inr o) = start t o

-- the tests in their order, up to that of the ticket
abbrev pub up_to_ticket : State → Option Ticket → Option Refusal
up_to_ticket s t = first (refused_if s.closed Closed) (refused_unless (shows s.frames t) WrongTicket)

-- and up to that of the place's one value
abbrev pub up_to_value : State → Option Ticket → Option Refusal
up_to_value s t = first (up_to_ticket s t) (refused_if (has_value s.frames s.filled) Filled)

-- and up to that of the number of elements
abbrev pub up_to_elements : State → Option Ticket → Option Refusal
up_to_elements s t = first (up_to_value s t) (refused_unless (takes_element s.frames) TooManyElements)

-- and up to that of an opening's arguments
abbrev pub up_to_arguments : State → Option Ticket → Opening → Option Refusal
up_to_arguments s t o = first (admission s t) (argument (opening_refusal s.table o))

-- all tests but that of the space
abbrev pub up_to_space : State → Request → Option Refusal
up_to_space s (put t v) = first (admission s t) (argument (value_refusal s.table v))
up_to_space s (start t o) = first (up_to_arguments s t o) (depth_refusal s)
up_to_space s (end t) = first (up_to_ticket s (Some t)) (refused_if (lacks_value s.frames) EndedEmpty)
up_to_space s abandon = refusal s abandon
up_to_space s finish = refusal s finish

-- a refusal comes exactly when the tests before it pass and something holds
abbrev pub Comes : Option Refusal → Refusal → Option Refusal → Type 0 → Type 0
Comes answered e before P = (answered ≡ Some e) ↔ ((before ≡ None) × P)

-- the frames that stand open are the openings less the ends
abbrev pub OpeningsLessEndsStand : Type 0
OpeningsLessEndsStand = (run : Run) → openings (accepted run) ≡ endings (accepted run) + length (reached run).frames

-- 16 comes when more frames stand around a value or an opening than the recursion limit
abbrev pub LimitIsOfFramesAround : Type 0
LimitIsOfFramesAround =
    (run : Run) (t : Option Ticket) (x : Value ⊎ Opening)
    → Comes (refusal (reached run) (asked t x)) ExceededRecursionLimit (up_to_elements (reached run) t) (PastLimit run)

-- finish answers the text's length and the least allowance, which with the most frames around any accepted value or opening makes up the limit
abbrev pub LeastAndDeepestMakeTheLimit : Type 0
LeastAndDeepestMakeTheLimit =
    (run : Run) → Finishes run
    → (least : Option ℕ)
    × (answer (reached run) finish ≡ finished (length (document_text run)) least)
    × (option_map (λ n. n + deepest (accepted run)) least ≡ run.settings.recursion_limit)

-- 11 comes when the place has its one value
abbrev pub FullPlacesRefuse : Type 0
FullPlacesRefuse =
    (run : Run) (t : Option Ticket) (x : Value ⊎ Opening)
    → Comes (refusal (reached run) (asked t x)) Filled (up_to_ticket (reached run) t) (MadeSo run place_full)

-- 13 comes when the innermost frame holds one value and has none
abbrev pub EmptyFramesDoNotEnd : Type 0
EmptyFramesDoNotEnd =
    (run : Run) (t : Ticket)
    → Comes (refusal (reached run) (end t)) EndedEmpty (up_to_ticket (reached run) (Some t)) (MadeSo run frame_lacks)

-- 17 comes when so many frames stand open
abbrev pub FramesAreAtMost : ℕ → Type 0
FramesAreAtMost most =
    (run : Run) (t : Option Ticket) (o : Opening)
    → Comes (refusal (reached run) (start t o)) TooManyFrames (up_to_arguments (reached run) t o) (left_open (accepted run) ≡ most)

-- 18 comes when the innermost frame has so many elements
abbrev pub ElementsAreAtMost : ℕ → Type 0
ElementsAreAtMost most =
    (run : Run) (t : Option Ticket) (x : Value ⊎ Opening)
    → Comes (refusal (reached run) (asked t x)) TooManyElements (up_to_value (reached run) t) (MadeSo run (λ m. nat_eq (frame_items m) most))

-- 19 comes when the request's bytes exceed the space
abbrev pub BytesPastTheSpaceRefuse : Type 0
BytesPastTheSpaceRefuse =
    (run : Run) (r : Request)
    → Comes (refusal (reached run) r) NoSpace (up_to_space (reached run) r) ((reached run).space < length (appended (reached run) r))

-- the text's length and the space that is left make up the space at the beginning
abbrev pub TextAndSpaceMakeTheSpace : Type 0
TextAndSpaceMakeTheSpace = (run : Run) → length (document_text run) + (reached run).space ≡ run.space

-- the beginning was refused, or a finish or an abandon was accepted
abbrev pub Over : Run → Type 0
Over run = (is_some (beginning_refusal run.settings run.space) ≡ true) ⊎ (writes_alone (accepted run) ≡ false)

-- 14 comes then, whatever is asked
abbrev pub ClosedDocumentsRefuse : Type 0
ClosedDocumentsRefuse = (run : Run) (r : Request) → (refusal (reached run) r ≡ Some Closed) ↔ Over run

-- an accepted None is wrapped once for each silent Some around it with silent frames alone between
abbrev pub NoneIsWrapped : Type 0
NoneIsWrapped =
    (run : Run) (t : Option Ticket) → refusal (reached run) (put t none) ≡ None
    → (m : Made)
    × (made (style run) (accepted run) ≡ Some m)
    × ((next (reached run) (put t none)).text ≡ (reached run).text ++ (lead (reached run) ++ none_bytes (silent_somes (style run).on m.frames)))

-- a refused request leaves the document as it was
abbrev pub RefusedRequestsChangeNothing : Type 0
RefusedRequestsChangeNothing = (s : State) (r : Request) (e : Refusal) → refusal s r ≡ Some e → next s r ≡ s

-- a refused beginning leaves a closed document without text, and the whole space
abbrev pub RefusedBeginningsWriteNothing : Type 0
RefusedBeginningsWriteNothing =
    (t : Table) (s : Settings) (space : ℕ) (e : Refusal) → beginning_refusal s space ≡ Some e
    → ((begun t s space).closed ≡ true) × ((begun t s space).text ≡ []) × ((begun t s space).space ≡ space)

-- all together, with the most frames that stand open and the most elements that a frame has
pub record LawsOfRuns (most_frames most_elements : ℕ) : Type 0 where
  pub frames : OpeningsLessEndsStand
  pub limit : LimitIsOfFramesAround
  pub least : LeastAndDeepestMakeTheLimit
  pub full : FullPlacesRefuse
  pub lacking : EmptyFramesDoNotEnd
  pub many_frames : FramesAreAtMost most_frames
  pub many_elements : ElementsAreAtMost most_elements
  pub past_space : BytesPastTheSpaceRefuse
  pub space : TextAndSpaceMakeTheSpace
  pub over : ClosedDocumentsRefuse
  pub nones : NoneIsWrapped
  pub refused_request : RefusedRequestsChangeNothing
  pub refused_beginning : RefusedBeginningsWriteNothing
