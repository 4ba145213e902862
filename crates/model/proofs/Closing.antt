-- A document is closed by a refused beginning, an abandon or a finish, and then refuses all; and what is refused changes nothing.
-- Assumes nothing.
use Rattle.std.proofs.Common.{◌≡◌, ◌-◌, Bool, true, false, not, ◌⊎◌, ◌↔◌, List, [], ◌∷◌, length, is_some, Some, None, Option, sym, refl, ap, ◌∙◌, subst, inl, inr, ⊎_elim, arith}
use Rattle.std.proofs.lemmas.Bool.{both_ways, not-true, not_from_false}
use Rattle.model.specs.Refusals.{unless}
use Rattle.model.specs.Requests.{Ticket, Value, Opening, Request, put, start, end, abandon, finish, Call, call_of}
use Rattle.model.specs.States.{State}
use Rattle.model.specs.Beginnings.{beginning_refusal, header_of, new, begun}
use Rattle.model.specs.Places.{unfinished, refusal}
use Rattle.model.specs.Steps.{effect}
use Rattle.model.specs.Making.{writes_alone}
use Rattle.model.specs.Runs.{Run, beginning, reached, accepted}
use Rattle.model.specs.Laws.{asked, Over, ClosedDocumentsRefuse, RefusedRequestsChangeNothing, RefusedBeginningsWriteNothing}
use Rattle.model.specs.declared.refusal.Refusal.{Refusal}
use Rattle.model.specs.declared.refusal.Refusal.TheVariants.{Closed, Unfinished}
use Rattle.model.proofs.Testing.{never_first, never_if, if_holds, comes_at_once}
use Rattle.model.proofs.InOrder.{other_than_ticket, other_than_lacking, other_than_space, never_behind, never_past_closed, closed_first}
use Rattle.model.proofs.Stepping.{always}

-- a closed document refuses a value or an opening, and so any request
closed_asked : (p : State) (t : Option Ticket) (x : Value ⊎ Opening) → (refusal p (asked t x) ≡ Some Closed) ↔ (p.closed ≡ true)
closed_asked p t x =
    subst (λ o. (o ≡ Some Closed) ↔ (p.closed ≡ true)) (closed_first p t x)
    (comes_at_once Closed p.closed _ (never_first Closed _ _ (never_past_closed Closed p t refl refl refl refl) (never_behind Closed p t x (omega arith) refl refl)))

closed_refuses : (p : State) (r : Request) → (refusal p r ≡ Some Closed) ↔ (p.closed ≡ true)
closed_refuses p (put t v) = closed_asked p t (inl v)
closed_refuses p (start t o) = closed_asked p t (inr o)
closed_refuses p (end t) =
    comes_at_once Closed p.closed _
    (never_first Closed _ _ (other_than_ticket Closed p (Some t) refl) (never_first Closed _ _ (other_than_lacking Closed p refl) (other_than_space Closed p (end t) refl)))
closed_refuses p abandon = if_holds Closed p.closed
closed_refuses p finish = comes_at_once Closed p.closed _ (never_if Closed (unfinished p.frames p.filled) Unfinished refl)

-- a document that is closed stays so
stays_closed : (p : State) (cs : List Call) (r : Request) → refusal p r ≡ None → p.closed ≡ true → (effect p r).closed ≡ true
stays_closed p cs (put t v) e h = h
stays_closed p cs (start t o) e h = h
stays_closed p cs (end t) e h = h
stays_closed p cs abandon e h = refl
stays_closed p cs finish e h = refl

-- one that began open is closed by an abandon or a finish alone
closes : (p : State) (cs : List Call) (r : Request) → refusal p r ≡ None → p.closed ≡ not (writes_alone cs) → (effect p r).closed ≡ not (writes_alone (call_of r ∷ cs))
closes p cs (put t v) e h = h
closes p cs (start t o) e h = h
closes p cs (end t) e h = h
closes p cs abandon e h = refl
closes p cs finish e h = refl

begun_closed : (run : Run) → (beginning run).closed ≡ is_some (beginning_refusal run.settings run.space)
begun_closed run = step (beginning_refusal run.settings run.space)
  where
    step : (o : Option Refusal) → (unless o (new run.table run.settings false (header_of run.settings) (run.space - length (header_of run.settings))) (λ e. new run.table run.settings true [] run.space)).closed ≡ is_some o
    step None = refl
    step (Some e) = refl

is_closed : (run : Run) → ((reached run).closed ≡ true) ↔ Over run
is_closed run = step (is_some (beginning_refusal run.settings run.space)) (begun_closed run)
  where
    step : (b : Bool) → (beginning run).closed ≡ b → ((reached run).closed ≡ true) ↔ ((b ≡ true) ⊎ (writes_alone (accepted run) ≡ false))
    step true e = (λ _. inl refl, λ _. always (λ p cs. p.closed ≡ true) (beginning run) e stays_closed run.requests)
    step false e =
        let same = always (λ p cs. p.closed ≡ not (writes_alone cs)) (beginning run) e closes run.requests in
        (λ q. inr (not-true _ (sym same ∙ q)), ⊎_elim (λ q. absurd (both_ways false refl q)) (λ q. same ∙ not_from_false _ q))

pub closed_documents_refuse : ClosedDocumentsRefuse
closed_documents_refuse run r =
    let a = closed_refuses (reached run) r in
    let b = is_closed run in
    (λ q. b.0 (a.0 q), λ q. a.1 (b.1 q))

pub refused_requests_change_nothing : RefusedRequestsChangeNothing
refused_requests_change_nothing s r e q = ap (λ o. unless o (effect s r) (λ x. s)) q

pub refused_beginnings_write_nothing : RefusedBeginningsWriteNothing
refused_beginnings_write_nothing t s space e q =
    let same : begun t s space ≡ new t s true [] space = ap (λ o. unless o (new t s false (header_of s) (space - length (header_of s))) (λ x. new t s true [] space)) q in
    (ap (λ z. z.closed) same, ap (λ z. z.text) same, ap (λ z. z.space) same)
