-- What the search by halves finds in ranges that are in order.
use Rattle.std.proofs.Common.{◌≡◌, ℕ, ◌+◌, ◌<◌, ◌≤◌, Bool, true, false, List, [], ◌∷◌, ◌++◌, length, get_or, take, drop, sym, ap, ◌∙◌, arith, take-append-drop}
use Rattle.std.proofs.lemmas.List.{drop_more}
use Rattle.chars.specs.declared.ranges.Range.{Range}
use Rattle.chars.specs.Ranges.{in_set, ordered}
use Rattle.chars.proofs.InOrder.{First, first_of, first_from, front_ordered, back_ordered, in_front, in_back, in_first, beyond_first}

-- whatever is in a set of all ranges is in that set of those that are left
pub record Left (rs all : List Range) (c : ℕ) : Type 0 where
  pub from : ℕ
  pub in_order : ordered from rs ≡ true
  pub same : (p : Range → Bool) → in_set p all c ≡ in_set p rs c

pub nowhere : (rs all : List Range) (c : ℕ) → Left rs all c → length rs ≡ 0 → (p : Range → Bool) → in_set p all c ≡ false
nowhere [] all c left e p = left.same p
nowhere (r ∷ rs) all c left e p = absurd (omega arith)

module _ (rs all : List Range) (c m : ℕ) (d : Range) (left : Left rs all c) (l : m < length rs) where
  abbrev pub front : List Range
  front = take m rs

  abbrev pub back : List Range
  back = drop (m + 1) rs

  abbrev pub r : Range
  r = get_or rs m d

  halves : rs ≡ front ++ r ∷ back
  halves = sym (take-append-drop m rs) ∙ ap (λ s. front ++ s) (drop_more rs m d l)

  in_halves : ordered left.from (front ++ r ∷ back) ≡ true
  in_halves = ap (ordered left.from) (sym halves) ∙ left.in_order

  at_middle : First left.from r back
  at_middle = first_of left.from r back (back_ordered left.from front (r ∷ back) in_halves)

  from_middle : ordered r.first (r ∷ back) ≡ true
  from_middle = first_from r.first r back (omega arith) at_middle.is_whole at_middle.behind

  not_before : (p : Range → Bool) → r.first ≤ c → in_set p all c ≡ in_set p (r ∷ back) c
  not_before p u = left.same p ∙ ap (λ s. in_set p s c) halves ∙ in_back p left.from front r back c in_halves u

  pub go_front : c < r.first → Left front all c
  go_front u = record {
    from = left.from;
    in_order = front_ordered left.from front (r ∷ back) in_halves;
    same = λ p. left.same p ∙ ap (λ s. in_set p s c) halves ∙ in_front p front (r ∷ back) r.first c from_middle u;
  }

  pub go_back : r.first ≤ c → r.last < c → Left back all c
  go_back u v = record { from = r.last + 1; in_order = at_middle.behind; same = λ p. not_before p u ∙ beyond_first p r back c v }

  pub is_here : r.first ≤ c → c ≤ r.last → (p : Range → Bool) → in_set p all c ≡ p r
  is_here u v p = not_before p u ∙ in_first p r back c at_middle.behind u v
