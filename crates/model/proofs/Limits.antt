-- Why a value, an opening or an end is refused, told by the calls that were accepted before it.
-- Assumes nothing.
use Rattle.std.proofs.Common.{◌≡◌, ℕ, suc, ◌+◌, ◌≤◌, Bool, true, false, not, ◌&&◌, eqb, ltb, ◌⊎◌, ◌↔◌, List, [], ◌∷◌, length, Some, None, Option, sym, refl, ap, ◌∙◌, subst, inl, inr, ⊎_elim, arith}
use Rattle.std.specs.Option.{option_map}
use Rattle.std.proofs.lemmas.Bool.{not-true, not_from_false, ltb-false, lt-ltb, le-ltb, eq-eqb, ne_eqb, cases_lt}
use Rattle.grammar.specs.Trees.{Tree}
use Rattle.model.specs.Refusals.{argument}
use Rattle.model.specs.Requests.{Ticket, Value, Opening, kind_of, start, end}
use Rattle.model.specs.States.{Frame, Allowance, State}
use Rattle.model.specs.Places.{single, most_elements, most_frames, has_value, takes_element, allowed, admission, opening_refusal, space_refusal, lacks_value, refusal}
use Rattle.model.specs.Making.{Held, Made}
use Rattle.model.specs.Runs.{Run, reached, accepted}
use Rattle.model.specs.Laws.{left_open, exceeds, has_item, full, place_full, lacks, frame_lacks, items_inside, frame_items, PastLimit, MadeSo, asked, up_to_ticket, up_to_value, up_to_elements, up_to_arguments, Comes, LimitIsOfFramesAround, FullPlacesRefuse, EmptyFramesDoNotEnd, FramesAreAtMost, ElementsAreAtMost}
use Rattle.model.specs.declared.refusal.Refusal.TheVariants.{Filled, EndedEmpty, ExceededRecursionLimit, TooManyFrames, TooManyElements}
use Rattle.model.proofs.Testing.{some_is, some_is_not_none, passes, passes_if, never_first, never_opening, comes_as, comes_if, comes_unless, first_assoc}
use Rattle.model.proofs.InOrder.{filled_among, elements_among, limit_among, test_closed, test_ticket, test_value, test_elements, test_limit, behind, admission_first, other_than_elements, other_than_limit, other_than_space, never_up_to_ticket, never_up_to_value, never_up_to_elements, never_behind, never_admission}
use Rattle.model.proofs.Following.{AllStand, TopStands, Beside, following, goes_beside}
use Rattle.model.proofs.Counting.{Few, Left, counts, stand_open}

-- three tests of a value or an opening, among the others
filled_comes : (p : State) (t : Option Ticket) (x : Value ⊎ Opening) → Comes (refusal p (asked t x)) Filled (up_to_ticket p t) (has_value p.frames p.filled ≡ true)
filled_comes p t x =
    subst (λ o. Comes o Filled (up_to_ticket p t) (has_value p.frames p.filled ≡ true))
    (sym (admission_first p t x ∙ filled_among (test_closed p) (test_ticket p t) (test_value p) (test_elements p) (test_limit p) (behind p t x)))
    (comes_if Filled _ _ _ (never_up_to_ticket Filled p t refl refl)
    (never_first Filled _ _ (never_first Filled _ _ (other_than_elements Filled p refl) (other_than_limit Filled p refl)) (never_behind Filled p t x (omega arith) refl refl)))

elements_comes : (p : State) (t : Option Ticket) (x : Value ⊎ Opening) → Comes (refusal p (asked t x)) TooManyElements (up_to_value p t) (not (takes_element p.frames) ≡ true)
elements_comes p t x =
    subst (λ o. Comes o TooManyElements (up_to_value p t) (not (takes_element p.frames) ≡ true))
    (sym (admission_first p t x ∙ elements_among (test_closed p) (test_ticket p t) (test_value p) (test_elements p) (test_limit p) (behind p t x)))
    (comes_unless TooManyElements _ _ _ (never_up_to_value TooManyElements p t refl refl refl)
    (never_first TooManyElements _ _ (other_than_limit TooManyElements p refl) (never_behind TooManyElements p t x (omega arith) refl refl)))

limit_comes : (p : State) (t : Option Ticket) (x : Value ⊎ Opening) → Comes (refusal p (asked t x)) ExceededRecursionLimit (up_to_elements p t) (not (allowed p.frames p.allowance) ≡ true)
limit_comes p t x =
    subst (λ o. Comes o ExceededRecursionLimit (up_to_elements p t) (not (allowed p.frames p.allowance) ≡ true))
    (sym (admission_first p t x ∙ limit_among (test_closed p) (test_ticket p t) (test_value p) (test_elements p) (test_limit p) (behind p t x)))
    (comes_unless ExceededRecursionLimit _ _ _ (never_up_to_elements ExceededRecursionLimit p t refl refl refl refl) (never_behind ExceededRecursionLimit p t x (omega arith) refl refl))

-- and one of an end, one of an opening
lacking_comes : (p : State) (t : Ticket) → Comes (refusal p (end t)) EndedEmpty (up_to_ticket p (Some t)) (lacks_value p.frames ≡ true)
lacking_comes p t =
    subst (λ o. Comes o EndedEmpty (up_to_ticket p (Some t)) (lacks_value p.frames ≡ true)) (first_assoc (test_closed p) (test_ticket p (Some t)) _)
    (comes_if EndedEmpty _ (space_refusal p (end t)) _ (never_up_to_ticket EndedEmpty p (Some t) refl refl) (other_than_space EndedEmpty p (end t) refl))

frames_comes : (p : State) (t : Option Ticket) (o : Opening) → Comes (refusal p (start t o)) TooManyFrames (up_to_arguments p t o) (not (ltb (length p.frames) most_frames) ≡ true)
frames_comes p t o =
    subst (λ r. Comes r TooManyFrames (up_to_arguments p t o) (not (ltb (length p.frames) most_frames) ≡ true)) (first_assoc (admission p t) (argument (opening_refusal p.table o)) _)
    (comes_unless TooManyFrames _ (space_refusal p (start t o)) _
    (never_first TooManyFrames _ _ (never_admission TooManyFrames p t refl refl refl refl refl) (never_opening TooManyFrames p.table o (omega arith)))
    (other_than_space TooManyFrames p (start t o) refl))

-- a path between tests: the one holds exactly when the other does
same_test : (a b : Bool) → a ≡ b → (a ≡ true) ↔ (b ≡ true)
same_test a b e = (λ q. sym e ∙ q, λ q. e ∙ q)

-- a test of the state is one of what was made
so_made : (test : Made → Bool) (o : Option Made) (m : Made) (b : Bool) → o ≡ Some m → b ≡ test m → (b ≡ true) ↔ (option_map test o ≡ Some true)
so_made test o m b e k = (λ q. ap (option_map test) e ∙ ap Some (sym k ∙ q), λ q. k ∙ some_is (sym (ap (option_map test) e) ∙ q))

-- elements are items where none is under way
any_elements : (n : ℕ) (xs : List Tree) → n ≡ length xs + 0 → eqb n 0 ≡ not (has_item xs)
any_elements n [] e = eq-eqb n 0 (omega (arith, e))
any_elements n (t ∷ xs) e = ne_eqb n 0 (λ z. omega (arith, e))

not_not : (b : Bool) → not (not b) ≡ b
not_not true = refl
not_not false = refl

-- the tests of the state are those of what was made
value_there : (fs : List Frame) (filled : Bool) (hs : List Held) (top : List Tree) → AllStand 0 fs hs → TopStands fs filled top → has_value fs filled ≡ full hs top
value_there [] filled [] top a (inl (p, q)) = p ∙ sym (ap has_item q)
value_there [] filled [] top a (inr (p, t, q)) = p ∙ sym (ap has_item q)
value_there [] filled (h ∷ hs) top a w = absurd a
value_there (f ∷ fs) filled [] top a w = absurd a
value_there (f ∷ fs) filled (h ∷ hs) top (a, rest) w =
    ap (λ k. single k && not (eqb f.elements 0)) a.kind
    ∙ ap (λ b. single (kind_of h.opener) && b) (ap not (any_elements f.elements h.items a.elements) ∙ not_not (has_item h.items))

value_lacking : (fs : List Frame) (hs : List Held) → AllStand 0 fs hs → lacks_value fs ≡ lacks hs
value_lacking [] [] a = refl
value_lacking [] (h ∷ hs) a = absurd a
value_lacking (f ∷ fs) [] a = absurd a
value_lacking (f ∷ fs) (h ∷ hs) (a, rest) =
    ap (λ k. single k && eqb f.elements 0) a.kind
    ∙ ap (λ b. single (kind_of h.opener) && b) (any_elements f.elements h.items a.elements)

-- within a bound, not below it is at it
at_bound : (e n m : ℕ) → e ≡ n + 0 → e ≤ m → not (ltb e m) ≡ eqb n m
at_bound e n m q l =
    ⊎_elim (λ z. ap not (lt-ltb e m z) ∙ sym (ne_eqb n m (λ k. omega (arith, q, z))))
    (λ z. ap not (le-ltb e m z) ∙ sym (eq-eqb n m (omega (arith, q, z, l))))
    (cases_lt e m)

no_more_elements : (fs : List Frame) (hs : List Held) → AllStand 0 fs hs → Few fs → not (takes_element fs) ≡ eqb (items_inside hs) most_elements
no_more_elements [] [] a k = refl
no_more_elements [] (h ∷ hs) a k = absurd a
no_more_elements (f ∷ fs) [] a k = absurd a
no_more_elements (f ∷ fs) (h ∷ hs) (a, rest) (k, _) = at_bound f.elements (length h.items) most_elements a.elements k

-- nothing is left of the limit where more frames stand open
not_allowed : (limit : Option ℕ) (fs : List Frame) (a : Option Allowance) (d : ℕ) → Left limit (length fs) a d → not (allowed fs a) ≡ exceeds limit (length fs)
not_allowed None [] a d h = refl
not_allowed None (f ∷ fs) None d h = refl
not_allowed None (f ∷ fs) (Some a) d h = absurd (some_is_not_none h)
not_allowed (Some n) fs None d h = absurd h
not_allowed (Some n) [] (Some a) d h = sym (le-ltb n 0 (omega arith))
not_allowed (Some n) (f ∷ fs) (Some a) d (h, k) =
    ⊎_elim (λ z. ap not (lt-ltb 0 a.left z) ∙ sym (le-ltb n (suc (length fs)) (omega (arith, h, z))))
    (λ z. ap not (le-ltb 0 a.left z) ∙ sym (lt-ltb n (suc (length fs)) (omega (arith, h, z))))
    (cases_lt 0 a.left)

-- where the ticket's test is passed the document is open, and what was made stands beside it
beside : (run : Run) (t : Option Ticket) → up_to_ticket (reached run) t ≡ None → Beside (reached run) run.settings (accepted run)
beside run t e = goes_beside (reached run) run.settings (accepted run) (following run) (passes_if _ _ (passes _ _ e).0)

pub full_places_refuse : FullPlacesRefuse
full_places_refuse run t x =
    comes_as Filled _ (up_to_ticket (reached run) t) _ (MadeSo run place_full) (filled_comes (reached run) t x)
    (λ e. let m = beside run t e in so_made place_full _ m.0 _ m.1 (value_there (reached run).frames (reached run).filled m.0.frames m.0.top m.2.frames m.2.top))

pub empty_frames_do_not_end : EmptyFramesDoNotEnd
empty_frames_do_not_end run t =
    comes_as EndedEmpty _ (up_to_ticket (reached run) (Some t)) _ (MadeSo run frame_lacks) (lacking_comes (reached run) t)
    (λ e. let m = beside run (Some t) e in so_made frame_lacks _ m.0 _ m.1 (value_lacking (reached run).frames m.0.frames m.2.frames))

pub elements_are_at_most : ElementsAreAtMost most_elements
elements_are_at_most run t x =
    comes_as TooManyElements _ (up_to_value (reached run) t) _ (MadeSo run (λ m. eqb (frame_items m) most_elements)) (elements_comes (reached run) t x)
    (λ e. let m = beside run t (passes (up_to_ticket (reached run) t) (test_value (reached run)) e).0 in so_made (λ m. eqb (frame_items m) most_elements) _ m.0 _ m.1 (no_more_elements (reached run).frames m.0.frames m.2.frames (counts run).elements))

pub limit_is_of_frames_around : LimitIsOfFramesAround
limit_is_of_frames_around run t x =
    let limit = run.settings.recursion_limit in
    let c = counts run in
    comes_as ExceededRecursionLimit _ (up_to_elements (reached run) t) _ (PastLimit run) (limit_comes (reached run) t x)
    (λ e. same_test _ _ (not_allowed limit (reached run).frames (reached run).allowance _ c.left ∙ ap (exceeds limit) (sym (stand_open (reached run).frames (accepted run) c.opens))))

-- at the bound there is no room for another frame
all_frames : (n k : ℕ) → n ≡ k → k ≤ most_frames → (not (ltb k most_frames) ≡ true) ↔ (n ≡ most_frames)
all_frames n k e l = (λ q. omega (arith, e, l, ltb-false k most_frames (not-true (ltb k most_frames) q)), λ q. not_from_false _ (le-ltb k most_frames (omega (arith, e, q))))

pub frames_are_at_most : FramesAreAtMost most_frames
frames_are_at_most run t o =
    let fs = (reached run).frames in
    let c = counts run in
    comes_as TooManyFrames _ (up_to_arguments (reached run) t o) _ (left_open (accepted run) ≡ most_frames) (frames_comes (reached run) t o)
    (λ _. all_frames (left_open (accepted run)) (length fs) (stand_open fs (accepted run) c.opens) c.frames)
