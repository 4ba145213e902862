-- The space: when a request's bytes exceed it, and that it shrinks by what is appended.
-- Assumes nothing.
use Rattle.std.proofs.Common.{◌≡◌, ℕ, ◌+◌, ◌-◌, ◌<◌, ◌≤◌, true, false, not, leb, ◌↔◌, List, [], ◌++◌, length, Some, None, Option, sym, refl, ap, ◌∙◌, subst, arith, length-append}
use Rattle.std.proofs.lemmas.Bool.{not-true, not_from_false, leb-true, leb-false, le-leb, lt-leb}
use Rattle.model.specs.Refusals.{argument, first, refused_if, refused_unless, unless}
use Rattle.model.specs.Settings.{Settings}
use Rattle.model.specs.Requests.{Request, put, start, end, abandon, finish, Call}
use Rattle.model.specs.States.{Table, State}
use Rattle.model.specs.Beginnings.{layout_refusal, beginning_refusal, header_of, new}
use Rattle.model.specs.Places.{unfinished, lacks_value, admission, value_refusal, opening_refusal, depth_refusal, space_refusal, refusal}
use Rattle.model.specs.Spellings.{appended}
use Rattle.model.specs.Steps.{effect}
use Rattle.model.specs.Runs.{beginning, reached}
use Rattle.model.specs.Laws.{up_to_ticket, up_to_arguments, up_to_space, Comes, BytesPastTheSpaceRefuse, TextAndSpaceMakeTheSpace}
use Rattle.model.specs.declared.refusal.Refusal.{Refusal}
use Rattle.model.specs.declared.refusal.Refusal.TheVariants.{EndedEmpty, Unfinished, NoSpace}
use Rattle.model.proofs.Testing.{passes, passes_unless, Never, never_first, never_if, never_value, never_opening, comes_as, comes_unless_last, first_assoc}
use Rattle.model.proofs.InOrder.{test_closed, test_ticket, other_than_closed, other_than_lacking, other_than_depth, never_up_to_ticket, never_admission}
use Rattle.model.proofs.Stepping.{always, own_text}

nothing_behind : (a b : Option Refusal) → b ≡ None → a ≡ first a b
nothing_behind None b e = sym e
nothing_behind (Some x) b e = refl

-- the test of the space stands behind all others; abandon and finish pass it
space_last : (p : State) (r : Request) → refusal p r ≡ first (up_to_space p r) (space_refusal p r)
space_last p (put t v) = sym (first_assoc (admission p t) (argument (value_refusal p.table v)) (space_refusal p (put t v)))
space_last p (start t o) =
    sym (first_assoc (up_to_arguments p t o) (depth_refusal p) (space_refusal p (start t o)) ∙ first_assoc (admission p t) (argument (opening_refusal p.table o)) _)
space_last p (end t) =
    sym (first_assoc (up_to_ticket p (Some t)) (refused_if (lacks_value p.frames) EndedEmpty) (space_refusal p (end t)) ∙ first_assoc (test_closed p) (test_ticket p (Some t)) _)
space_last p abandon = nothing_behind (refusal p abandon) _ (ap (λ b. refused_unless b NoSpace) (le-leb 0 p.space (omega arith)))
space_last p finish = nothing_behind (refusal p finish) _ (ap (λ b. refused_unless b NoSpace) (le-leb 0 p.space (omega arith)))

-- no other test is of the space
never_before : (p : State) (r : Request) → Never NoSpace (up_to_space p r)
never_before p (put t v) = never_first NoSpace _ _ (never_admission NoSpace p t refl refl refl refl refl) (never_value NoSpace p.table v (omega arith))
never_before p (start t o) =
    never_first NoSpace _ _ (never_first NoSpace _ _ (never_admission NoSpace p t refl refl refl refl refl) (never_opening NoSpace p.table o (omega arith))) (other_than_depth NoSpace p refl)
never_before p (end t) = never_first NoSpace _ _ (never_up_to_ticket NoSpace p (Some t) refl refl) (other_than_lacking NoSpace p refl)
never_before p abandon = other_than_closed NoSpace p refl
never_before p finish = never_first NoSpace _ _ (other_than_closed NoSpace p refl) (never_if NoSpace (unfinished p.frames p.filled) Unfinished refl)

past : (n space : ℕ) → (not (leb n space) ≡ true) ↔ (space < n)
past n space = (λ q. leb-false n space (not-true _ q), λ q. not_from_false _ (lt-leb n space q))

pub bytes_past_the_space_refuse : BytesPastTheSpaceRefuse
bytes_past_the_space_refuse run r =
    let p = reached run in
    let fits = leb (length (appended p r)) p.space in
    comes_as NoSpace (refusal p r) (up_to_space p r) (not fits ≡ true) (p.space < length (appended p r))
    (subst (λ o. Comes o NoSpace (up_to_space p r) (not fits ≡ true)) (sym (space_last p r)) (comes_unless_last NoSpace (up_to_space p r) fits (never_before p r)))
    (λ _. past (length (appended p r)) p.space)

-- what is accepted fits
fits_in : (p : State) (r : Request) → refusal p r ≡ None → length (appended p r) ≤ p.space
fits_in p r e = leb-true _ _ (passes_unless _ NoSpace (passes (up_to_space p r) (space_refusal p r) (sym (space_last p r) ∙ e)).1)

-- bytes that fit go from the space to the text
moved : (text x : List ℕ) (space n : ℕ) → length x ≤ space → length text + space ≡ n → length (text ++ x) + (space - length x) ≡ n
moved text x space n l e = omega (arith, l, e, length-append text x)

moves : (n : ℕ) (p : State) (cs : List Call) (r : Request) → refusal p r ≡ None → length p.text + p.space ≡ n → length (effect p r).text + (effect p r).space ≡ n
moves n p cs (put t v) e h = moved p.text (appended p (put t v)) p.space n (fits_in p (put t v) e) h
moves n p cs (start t o) e h = moved p.text (appended p (start t o)) p.space n (fits_in p (start t o) e) h
moves n p cs (end t) e h = moved p.text (appended p (end t)) p.space n (fits_in p (end t) e) h
moves n p cs abandon e h = h
moves n p cs finish e h = h

header_moved : (t : Table) (s : Settings) (space : ℕ) (o : Option Refusal) → beginning_refusal s space ≡ o
    → (let q : State = unless o (new t s false (header_of s) (space - length (header_of s))) (λ e. new t s true [] space) in length q.text + q.space ≡ space)
header_moved t s space None e = omega (arith, leb-true (length (header_of s)) space (passes_unless _ NoSpace (passes (layout_refusal s.config) _ e).1))
header_moved t s space (Some x) e = omega arith

pub text_and_space_make_the_space : TextAndSpaceMakeTheSpace
text_and_space_make_the_space run =
    ap (λ x. length x + (reached run).space) (own_text run)
    ∙ always (λ p cs. length p.text + p.space ≡ run.space) (beginning run) (header_moved run.table run.settings run.space _ refl) (moves run.space) run.requests
