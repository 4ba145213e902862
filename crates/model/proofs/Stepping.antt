-- Runs step by step: what holds at the beginning, and is kept by each accepted request, holds at every moment.
-- Assumes nothing.
use Rattle.std.proofs.Common.{◌≡◌, true, false, ltb, List, [], ◌∷◌, ◌++◌, length, drop, Some, None, Option, refl, ◌∙◌}
use Rattle.model.specs.Refusals.{argument, unless}
use Rattle.model.specs.Requests.{Ticket, Opening, Request, put, start, end, abandon, finish, Call, call_of}
use Rattle.model.specs.States.{State}
use Rattle.model.specs.Beginnings.{beginning_refusal}
use Rattle.model.specs.Places.{shows, most_frames, opening_refusal, depth_refusal, space_refusal, has_value, takes_element, allowed, lacks_value, admission, refusal}
use Rattle.model.specs.Steps.{effect}
use Rattle.model.specs.Runs.{Run, after, accepted_from, beginning, reached, document_text}
use Rattle.model.specs.declared.refusal.Refusal.{Refusal}
use Rattle.model.specs.declared.refusal.Refusal.TheVariants.{TooManyFrames}
use Rattle.model.proofs.Testing.{passes, passes_if, passes_unless, either_way}

pub always : (P : State → List Call → Type 0) (s : State) → P s [] → ((p : State) (cs : List Call) (r : Request) → refusal p r ≡ None → P p cs → P (effect p r) (call_of r ∷ cs))
    → (rs : List Request) → P (after s rs) (accepted_from s rs)
always P s h k [] = h
always P s h k (r ∷ rs) = step (refusal (after s rs) r) refl (always P s h k rs)
  where
    step : (o : Option Refusal) → refusal (after s rs) r ≡ o → P (after s rs) (accepted_from s rs) → P (unless o (effect (after s rs) r) (λ e. after s rs)) (unless o (call_of r ∷ accepted_from s rs) (λ e. accepted_from s rs))
    step None e f = k (after s rs) (accepted_from s rs) r e f
    step (Some x) e f = f

-- what passes the tests before the arguments
pub record Admitted (p : State) (t : Option Ticket) : Type 0 where
  pub is_open : p.closed ≡ false
  pub shown : shows p.frames t ≡ true
  pub place : has_value p.frames p.filled ≡ false
  pub takes : takes_element p.frames ≡ true
  pub allows : allowed p.frames p.allowance ≡ true

pub admitted : (p : State) (t : Option Ticket) → admission p t ≡ None → Admitted p t
admitted p t e =
    let a = passes _ _ e in
    let b = passes _ _ a.1 in
    let c = passes _ _ b.1 in
    let d = passes _ _ c.1 in
    record {
      is_open = passes_if _ _ a.0;
      shown = passes_unless _ _ b.0;
      place = passes_if _ _ c.0;
      takes = passes_unless _ _ d.0;
      allows = passes_unless _ _ d.1;
    }

-- an accepted opening finds room for its frame
pub opens_within : (p : State) (t : Option Ticket) (o : Opening) → refusal p (start t o) ≡ None → ltb (length p.frames) most_frames ≡ true
opens_within p t o e =
    let a = passes (admission p t) _ e in
    let b = passes (argument (opening_refusal p.table o)) _ a.1 in
    let c = passes (depth_refusal p) (space_refusal p (start t o)) b.1 in
    passes_unless _ TooManyFrames c.0

-- an accepted end shows the ticket of a frame that does not lack its value
pub ends_well : (p : State) (t : Ticket) → refusal p (end t) ≡ None → (shows p.frames (Some t) ≡ true) × (lacks_value p.frames ≡ false)
ends_well p t e =
    let a = passes _ _ (passes _ _ e).1 in
    (passes_unless _ _ a.0, passes_if _ _ (passes _ _ a.1).0)

-- an accepted request finds the document open
pub accepts_open : (p : State) (r : Request) → refusal p r ≡ None → p.closed ≡ false
accepts_open p (put t v) e = (admitted p t (passes _ _ e).0).is_open
accepts_open p (start t o) e = (admitted p t (passes _ _ e).0).is_open
accepts_open p (end t) e = passes_if _ _ (passes _ _ e).0
accepts_open p abandon e = passes_if _ _ e
accepts_open p finish e = passes_if _ _ (passes _ _ e).0

-- no request changes the table or the settings
pub record SameSettings (p q : State) : Type 0 where
  pub table : p.table ≡ q.table
  pub settings : p.settings ≡ q.settings

pub keeps : (p : State) (r : Request) → SameSettings (effect p r) p
keeps p (put t v) = record { table = refl; settings = refl }
keeps p (start t o) = record { table = refl; settings = refl }
keeps p (end t) = record { table = refl; settings = refl }
keeps p abandon = record { table = refl; settings = refl }
keeps p finish = record { table = refl; settings = refl }

pub reached_keeps : (run : Run) → ((reached run).table ≡ run.table) × ((reached run).settings ≡ run.settings)
reached_keeps run =
    let s = beginning run in
    let kept = always (λ p cs. SameSettings p s) s (record { table = refl; settings = refl }) (λ p cs r e h. record { table = (keeps p r).table ∙ h.table; settings = (keeps p r).settings ∙ h.settings }) run.requests in
    let o = beginning_refusal run.settings run.space in
    (kept.table ∙ either_way (λ (q : State). q.table ≡ run.table) o _ _ refl (λ e. refl), kept.settings ∙ either_way (λ (q : State). q.settings ≡ run.settings) o _ _ refl (λ e. refl))

-- what stands in the sink behind what it held is what was appended
past : {A : Type 0} (x y : List A) → drop (length x) (x ++ y) ≡ y
past [] y = refl
past (a ∷ x) y = past x y

pub own_text : (run : Run) → document_text run ≡ (reached run).text
own_text run = past run.held (reached run).text
