-- Counts that every request keeps: the frames are the openings less the ends, frames and elements are within their bounds, and what is left of the recursion limit goes by the frames.
-- Assumes nothing.
use Rattle.std.proofs.Common.{◌≡◌, ℕ, suc, ◌+◌, ◌-◌, ◌≤◌, max, true, List, [], ◌∷◌, length, Some, None, Option, sym, refl, ap, ◌∙◌, subst, arith}
use Rattle.std.specs.Option.{option_map}
use Rattle.std.proofs.lemmas.Bool.{false≢true, ltb-true}
use Rattle.model.specs.Refusals.{unless}
use Rattle.model.specs.Requests.{Ticket, Request, put, start, end, abandon, finish, Call, ending, call_of}
use Rattle.model.specs.States.{Frame, Allowance, State, counted, below, taken, returned, touched}
use Rattle.model.specs.Beginnings.{beginning_refusal, whole_limit}
use Rattle.model.specs.Places.{shows, most_elements, most_frames, takes_element, allowed, refusal}
use Rattle.model.specs.Steps.{effect, finished, least_of, yield, refuse}
use Rattle.model.specs.Runs.{Run, beginning, reached, accepted}
use Rattle.model.specs.Laws.{openings, endings, left_open, deepest, OpeningsLessEndsStand, LeastAndDeepestMakeTheLimit}
use Rattle.model.proofs.Testing.{some_is_not_none, passes, either_way}
use Rattle.model.proofs.Stepping.{always, admitted, opens_within, ends_well, reached_keeps, own_text}

-- no frame has more elements than it may
abbrev pub Few : List Frame → Type 0
Few [] = Unit {0}
Few (f ∷ fs) = (f.elements ≤ most_elements) × Few fs

-- of a limit each frame but the first has taken one, and the deepest value or opening as many as frames stood around it
abbrev pub Left : Option ℕ → ℕ → Option Allowance → ℕ → Type 0
Left None frames a deep = a ≡ None
Left (Some n) frames None deep = ⊥
Left (Some n) frames (Some a) deep = (a.left + (frames - 1) ≡ n) × (a.least + deep ≡ n)

pub record Counts (limit : Option ℕ) (fs : List Frame) (a : Option Allowance) (cs : List Call) : Type 0 where
  pub opens : openings cs ≡ endings cs + length fs
  pub frames : length fs ≤ most_frames
  pub elements : Few fs
  pub left : Left limit (length fs) a (deepest cs)

pub stand_open : (fs : List Frame) (cs : List Call) → openings cs ≡ endings cs + length fs → left_open cs ≡ length fs
stand_open fs cs e = omega (arith, e)

as_many : (fs : List Frame) → length (counted fs) ≡ length fs
as_many [] = refl
as_many (f ∷ fs) = refl

still_few : (fs : List Frame) → takes_element fs ≡ true → Few fs → Few (counted fs)
still_few [] e h = tt
still_few (f ∷ fs) e (h, rest) = (omega (arith, ltb-true f.elements most_elements e), rest)

-- a value takes one and returns it, an opening takes one, an end returns one
value_left : (limit : Option ℕ) (fs : List Frame) (a : Option Allowance) (d : ℕ) → allowed fs a ≡ true → Left limit (length fs) a d → Left limit (length fs) (touched fs a) (max (length fs) d)
value_left None [] a d e h = h
value_left None (f ∷ fs) None d e h = refl
value_left None (f ∷ fs) (Some a) d e h = absurd (some_is_not_none h)
value_left (Some n) fs None d e h = absurd h
value_left (Some n) [] (Some a) d e (h, k) = (h, omega (arith, k))
value_left (Some n) (f ∷ fs) (Some a) d e (h, k) = (h, omega (arith, h, k, ltb-true 0 a.left e))

opening_left : (limit : Option ℕ) (fs : List Frame) (a : Option Allowance) (d : ℕ) → allowed fs a ≡ true → Left limit (length fs) a d → Left limit (suc (length fs)) (taken fs a) (max (length fs) d)
opening_left None [] a d e h = h
opening_left None (f ∷ fs) None d e h = refl
opening_left None (f ∷ fs) (Some a) d e h = absurd (some_is_not_none h)
opening_left (Some n) fs None d e h = absurd h
opening_left (Some n) [] (Some a) d e (h, k) = (omega (arith, h), omega (arith, k))
opening_left (Some n) (f ∷ fs) (Some a) d e (h, k) = (omega (arith, h, ltb-true 0 a.left e), omega (arith, h, k, ltb-true 0 a.left e))

end_left : (limit : Option ℕ) (fs : List Frame) (a : Option Allowance) (d : ℕ) → Left limit (suc (length fs)) a d → Left limit (length fs) (returned fs a) d
end_left None [] a d h = h
end_left None (f ∷ fs) None d h = refl
end_left None (f ∷ fs) (Some a) d h = absurd (some_is_not_none h)
end_left (Some n) fs None d h = absurd h
end_left (Some n) [] (Some a) d (h, k) = (omega (arith, h), k)
end_left (Some n) (f ∷ fs) (Some a) d (h, k) = (omega (arith, h), k)

end_counts : (limit : Option ℕ) (fs : List Frame) (a : Option Allowance) (cs : List Call) (t : Ticket) → shows fs (Some t) ≡ true → Counts limit fs a cs → Counts limit (below fs) (returned (below fs) a) (ending ∷ cs)
end_counts limit [] a cs t e h = absurd (false≢true e)
end_counts limit (f ∷ fs) a cs t e h = record {
  opens = omega (arith, h.opens);
  frames = omega (arith, h.frames);
  elements = h.elements.1;
  left = end_left limit fs a (deepest cs) h.left;
}

-- one accepted request
counts_on : (p : State) (cs : List Call) (r : Request) → refusal p r ≡ None → Counts p.settings.recursion_limit p.frames p.allowance cs → Counts (effect p r).settings.recursion_limit (effect p r).frames (effect p r).allowance (call_of r ∷ cs)
counts_on p cs (put t v) e h =
    let a = admitted p t (passes _ _ e).0 in
    let same = as_many p.frames in
    record {
      opens = omega (arith, h.opens, same);
      frames = omega (arith, h.frames, same);
      elements = still_few p.frames a.takes h.elements;
      left = rw (same, stand_open p.frames cs h.opens) (value_left p.settings.recursion_limit p.frames p.allowance (deepest cs) a.allows h.left);
    }
counts_on p cs (start t o) e h =
    let a = admitted p t (passes _ _ e).0 in
    let room = ltb-true (length p.frames) most_frames (opens_within p t o e) in
    let same = as_many p.frames in
    record {
      opens = omega (arith, h.opens, same);
      frames = omega (arith, room, same);
      elements = (omega arith, still_few p.frames a.takes h.elements);
      left = rw (same, stand_open p.frames cs h.opens) (opening_left p.settings.recursion_limit p.frames p.allowance (deepest cs) a.allows h.left);
    }
counts_on p cs (end t) e h = end_counts p.settings.recursion_limit p.frames p.allowance cs t (ends_well p t e).0 h
counts_on p cs abandon e h = record { opens = h.opens; frames = h.frames; elements = h.elements; left = h.left }
counts_on p cs finish e h = record { opens = h.opens; frames = h.frames; elements = h.elements; left = h.left }

whole_left : (limit : Option ℕ) → Left limit 0 (whole_limit limit) 0
whole_left None = refl
whole_left (Some n) = (omega arith, omega arith)

starts_counted : (run : Run) → Counts (beginning run).settings.recursion_limit (beginning run).frames (beginning run).allowance []
starts_counted run =
    let empty : Counts run.settings.recursion_limit [] (whole_limit run.settings.recursion_limit) [] = record { opens = refl; frames = omega arith; elements = tt; left = whole_left run.settings.recursion_limit } in
    either_way (λ (q : State). Counts q.settings.recursion_limit q.frames q.allowance []) (beginning_refusal run.settings run.space) _ _ empty (λ e. empty)

pub counts : (run : Run) → Counts run.settings.recursion_limit (reached run).frames (reached run).allowance (accepted run)
counts run =
    subst (λ s. Counts s.recursion_limit (reached run).frames (reached run).allowance (accepted run)) (reached_keeps run).1
    (always (λ p cs. Counts p.settings.recursion_limit p.frames p.allowance cs) (beginning run) (starts_counted run) counts_on run.requests)

pub openings_less_ends_stand : OpeningsLessEndsStand
openings_less_ends_stand run = (counts run).opens

least_left : (limit : Option ℕ) (k : ℕ) (a : Option Allowance) (d : ℕ) → Left limit k a d → option_map (λ n. n + d) (least_of a) ≡ limit
least_left None k None d h = refl
least_left None k (Some a) d h = absurd (some_is_not_none h)
least_left (Some n) k None d h = absurd h
least_left (Some n) k (Some a) d (h, q) = ap Some q

pub least_and_deepest_make_the_limit : LeastAndDeepestMakeTheLimit
least_and_deepest_make_the_limit run e = (
  least_of (reached run).allowance,
  ap (λ o. unless o (yield (reached run) finish) (refuse (reached run) finish)) e ∙ ap (λ x. finished (length x) (least_of (reached run).allowance)) (sym (own_text run)),
  least_left run.settings.recursion_limit (length (reached run).frames) (reached run).allowance (deepest (accepted run)) (counts run).left,
)
