-- The tests of a request in their order: which come before a refusal and which behind it, and which never give it.
-- Assumes nothing.
use Rattle.std.proofs.Common.{◌≡◌, ◌<◌, false, eqb, ltb, leb, ◌⊎◌, length, Some, None, Option, sym, refl, ◌∙◌, inl, inr}
use Rattle.model.specs.Refusals.{number, argument, first, refused_if, refused_unless}
use Rattle.model.specs.Requests.{Ticket, Value, Opening, Request, put, start}
use Rattle.model.specs.States.{State}
use Rattle.model.specs.Places.{lacks_value, shows, most_frames, has_value, takes_element, allowed, admission, value_refusal, opening_refusal, depth_refusal, space_refusal, refusal}
use Rattle.model.specs.Spellings.{appended}
use Rattle.model.specs.Laws.{asked, up_to_ticket, up_to_value, up_to_elements}
use Rattle.model.specs.declared.refusal.Refusal.{Refusal}
use Rattle.model.specs.declared.refusal.Refusal.TheVariants.{Filled, WrongTicket, EndedEmpty, Closed, ExceededRecursionLimit, TooManyFrames, TooManyElements, NoSpace}
use Rattle.model.proofs.Testing.{Never, never_first, never_if, never_unless, never_value, never_opening, first_assoc}

-- three of the tests of a value or an opening, each with those before it and those behind it
pub filled_among : (c w f m l r : Option Refusal) → first (first c (first w (first f (first m l)))) r ≡ first (first c w) (first f (first (first m l) r))
filled_among (Some x) w f m l r = refl
filled_among None (Some x) f m l r = refl
filled_among None None (Some x) m l r = refl
filled_among None None None m l r = refl

pub elements_among : (c w f m l r : Option Refusal) → first (first c (first w (first f (first m l)))) r ≡ first (first (first c w) f) (first m (first l r))
elements_among (Some x) w f m l r = refl
elements_among None (Some x) f m l r = refl
elements_among None None (Some x) m l r = refl
elements_among None None None (Some x) l r = refl
elements_among None None None None l r = refl

pub limit_among : (c w f m l r : Option Refusal) → first (first c (first w (first f (first m l)))) r ≡ first (first (first (first c w) f) m) (first l r)
limit_among (Some x) w f m l r = refl
limit_among None (Some x) f m l r = refl
limit_among None None (Some x) m l r = refl
limit_among None None None (Some x) l r = refl
limit_among None None None None l r = refl

-- the five tests of an admission
abbrev pub test_closed : State → Option Refusal
test_closed p = refused_if p.closed Closed

abbrev pub test_ticket : State → Option Ticket → Option Refusal
test_ticket p t = refused_unless (shows p.frames t) WrongTicket

abbrev pub test_value : State → Option Refusal
test_value p = refused_if (has_value p.frames p.filled) Filled

abbrev pub test_elements : State → Option Refusal
test_elements p = refused_unless (takes_element p.frames) TooManyElements

abbrev pub test_limit : State → Option Refusal
test_limit p = refused_unless (allowed p.frames p.allowance) ExceededRecursionLimit

-- the tests behind the admission
pub behind : State → Option Ticket → Value ⊎ Opening → Option Refusal
behind p t (inl v) = first (argument (value_refusal p.table v)) (space_refusal p (put t v))
behind p t (inr o) = first (argument (opening_refusal p.table o)) (first (depth_refusal p) (space_refusal p (start t o)))

pub admission_first : (p : State) (t : Option Ticket) (x : Value ⊎ Opening) → refusal p (asked t x) ≡ first (admission p t) (behind p t x)
unfolding behind
admission_first p t (inl v) = refl
admission_first p t (inr o) = refl

-- a refusal by another number is not given by a test
pub other_than_closed : (e : Refusal) (p : State) → eqb 14 (number e) ≡ false → Never e (test_closed p)
other_than_closed e p h = never_if e p.closed Closed h

pub other_than_ticket : (e : Refusal) (p : State) (t : Option Ticket) → eqb 12 (number e) ≡ false → Never e (test_ticket p t)
other_than_ticket e p t h = never_unless e (shows p.frames t) WrongTicket h

pub other_than_value : (e : Refusal) (p : State) → eqb 11 (number e) ≡ false → Never e (test_value p)
other_than_value e p h = never_if e (has_value p.frames p.filled) Filled h

pub other_than_elements : (e : Refusal) (p : State) → eqb 18 (number e) ≡ false → Never e (test_elements p)
other_than_elements e p h = never_unless e (takes_element p.frames) TooManyElements h

pub other_than_limit : (e : Refusal) (p : State) → eqb 16 (number e) ≡ false → Never e (test_limit p)
other_than_limit e p h = never_unless e (allowed p.frames p.allowance) ExceededRecursionLimit h

pub other_than_lacking : (e : Refusal) (p : State) → eqb 13 (number e) ≡ false → Never e (refused_if (lacks_value p.frames) EndedEmpty)
other_than_lacking e p h = never_if e (lacks_value p.frames) EndedEmpty h

pub other_than_depth : (e : Refusal) (p : State) → eqb 17 (number e) ≡ false → Never e (depth_refusal p)
other_than_depth e p h = never_unless e (ltb (length p.frames) most_frames) TooManyFrames h

pub other_than_space : (e : Refusal) (p : State) (r : Request) → eqb 19 (number e) ≡ false → Never e (space_refusal p r)
other_than_space e p r h = never_unless e (leb (length (appended p r)) p.space) NoSpace h

-- nor by several
pub never_up_to_ticket : (e : Refusal) (p : State) (t : Option Ticket) → eqb 14 (number e) ≡ false → eqb 12 (number e) ≡ false → Never e (up_to_ticket p t)
never_up_to_ticket e p t a b = never_first e _ _ (other_than_closed e p a) (other_than_ticket e p t b)

pub never_up_to_value : (e : Refusal) (p : State) (t : Option Ticket) → eqb 14 (number e) ≡ false → eqb 12 (number e) ≡ false → eqb 11 (number e) ≡ false → Never e (up_to_value p t)
never_up_to_value e p t a b c = never_first e _ _ (never_up_to_ticket e p t a b) (other_than_value e p c)

pub never_up_to_elements : (e : Refusal) (p : State) (t : Option Ticket) → eqb 14 (number e) ≡ false → eqb 12 (number e) ≡ false → eqb 11 (number e) ≡ false → eqb 18 (number e) ≡ false → Never e (up_to_elements p t)
never_up_to_elements e p t a b c d = never_first e _ _ (never_up_to_value e p t a b c) (other_than_elements e p d)

pub never_behind : (e : Refusal) (p : State) (t : Option Ticket) (x : Value ⊎ Opening) → 10 < number e → eqb 17 (number e) ≡ false → eqb 19 (number e) ≡ false → Never e (behind p t x)
unfolding behind
never_behind e p t (inl v) h j k = never_first e _ _ (never_value e p.table v h) (other_than_space e p (put t v) k)
never_behind e p t (inr o) h j k = never_first e _ _ (never_opening e p.table o h) (never_first e _ _ (other_than_depth e p j) (other_than_space e p (start t o) k))

-- the tests of an admission but that of closed, which stands before all others
pub past_closed : State → Option Ticket → Option Refusal
past_closed p t = first (test_ticket p t) (first (test_value p) (first (test_elements p) (test_limit p)))

pub never_past_closed : (e : Refusal) (p : State) (t : Option Ticket) → eqb 12 (number e) ≡ false → eqb 11 (number e) ≡ false → eqb 18 (number e) ≡ false → eqb 16 (number e) ≡ false → Never e (past_closed p t)
unfolding past_closed
never_past_closed e p t b c d f =
    never_first e _ _ (other_than_ticket e p t b) (never_first e _ _ (other_than_value e p c) (never_first e _ _ (other_than_elements e p d) (other_than_limit e p f)))

pub never_admission : (e : Refusal) (p : State) (t : Option Ticket) → eqb 14 (number e) ≡ false → eqb 12 (number e) ≡ false → eqb 11 (number e) ≡ false → eqb 18 (number e) ≡ false → eqb 16 (number e) ≡ false → Never e (admission p t)
unfolding past_closed
never_admission e p t a b c d f = never_first e _ _ (other_than_closed e p a) (never_past_closed e p t b c d f)

pub closed_first : (p : State) (t : Option Ticket) (x : Value ⊎ Opening) → first (test_closed p) (first (past_closed p t) (behind p t x)) ≡ refusal p (asked t x)
unfolding past_closed
closed_first p t x = sym (first_assoc (test_closed p) (past_closed p t) (behind p t x)) ∙ sym (admission_first p t x)
