-- Membership in ranges that are in order.
use Rattle.std.proofs.Common.{◌≡◌, ℕ, ◌+◌, ◌<◌, ◌≤◌, Bool, true, false, ◌&&◌, ◌||◌, leb, List, [], ◌∷◌, ◌++◌, sym, refl, ap, ◌∙◌, arith}
use Rattle.std.proofs.lemmas.Bool.{and_parts, and_from, and_left, and_right, leb-true, le-leb, lt-leb, false≢true}
use Rattle.chars.specs.declared.ranges.Range.{Range}
use Rattle.chars.specs.Ranges.{holds, in_set, whole, ordered}

-- what order says of the first range
pub record First (lo : ℕ) (r : Range) (rs : List Range) : Type 0 where
  pub low : lo ≤ r.first
  pub is_whole : whole r ≡ true
  pub not_empty : r.first ≤ r.last
  pub behind : ordered (r.last + 1) rs ≡ true

pub first_of : (lo : ℕ) (r : Range) (rs : List Range) → ordered lo (r ∷ rs) ≡ true → First lo r rs
first_of lo r rs h =
    let a = and_parts (leb lo r.first) (whole r && ordered (r.last + 1) rs) h in
    let b = and_parts (whole r) (ordered (r.last + 1) rs) a.1 in
    record {
      low = leb-true lo r.first a.0;
      is_whole = b.0;
      not_empty = leb-true r.first r.last (and_parts (leb r.first r.last) _ b.0).0;
      behind = b.1;
    }

pub first_from : (lo : ℕ) (r : Range) (rs : List Range) → lo ≤ r.first → whole r ≡ true → ordered (r.last + 1) rs ≡ true → ordered lo (r ∷ rs) ≡ true
first_from lo r rs l w b =
    and_from (leb lo r.first) (whole r && ordered (r.last + 1) rs) (le-leb lo r.first l) (and_from (whole r) (ordered (r.last + 1) rs) w b)

-- a range holds what is neither below it nor beyond it
pub below_holds : (r : Range) (c : ℕ) → c < r.first → holds r c ≡ false
below_holds r c l = and_left (leb r.first c) (leb c r.last) (lt-leb r.first c l)

pub beyond_holds : (r : Range) (c : ℕ) → r.last < c → holds r c ≡ false
beyond_holds r c l = and_right (leb r.first c) (leb c r.last) (lt-leb c r.last l)

pub between_holds : (r : Range) (c : ℕ) → r.first ≤ c → c ≤ r.last → holds r c ≡ true
between_holds r c l u = and_from (leb r.first c) (leb c r.last) (le-leb r.first c l) (le-leb c r.last u)

skip : (h p q : Bool) → h ≡ false → ((h && p) || q) ≡ q
skip true p q e = absurd (false≢true (sym e))
skip false p q e = refl

hit : (h p q : Bool) → h ≡ true → q ≡ false → ((h && p) || q) ≡ p
hit true true q e f = refl
hit true false q e f = f
hit false p q e f = absurd (false≢true e)

-- a character that the first range does not hold is left to the others
pub not_first : (p : Range → Bool) (r : Range) (rs : List Range) (c : ℕ) → holds r c ≡ false → in_set p (r ∷ rs) c ≡ in_set p rs c
not_first p r rs c h = skip (holds r c) (p r) (in_set p rs c) h

-- no character below the ranges is in a set
pub none_below : (p : Range → Bool) (rs : List Range) (lo c : ℕ) → ordered lo rs ≡ true → c < lo → in_set p rs c ≡ false
none_below p [] lo c h l = refl
none_below p (r ∷ rs) lo c h l =
    let f = first_of lo r rs h in
    let a = f.low in
    let b = f.not_empty in
    not_first p r rs c (below_holds r c (omega arith)) ∙ none_below p rs (r.last + 1) c f.behind (omega arith)

-- one that the first range holds is in its sets
pub in_first : (p : Range → Bool) (r : Range) (rs : List Range) (c : ℕ) → ordered (r.last + 1) rs ≡ true → r.first ≤ c → c ≤ r.last → in_set p (r ∷ rs) c ≡ p r
in_first p r rs c o l u = hit (holds r c) (p r) (in_set p rs c) (between_holds r c l u) (none_below p rs (r.last + 1) c o (omega arith))

pub below_first : (p : Range → Bool) (r : Range) (rs : List Range) (c : ℕ) → ordered (r.last + 1) rs ≡ true → r.first ≤ r.last → c < r.first → in_set p (r ∷ rs) c ≡ false
below_first p r rs c o l u = not_first p r rs c (below_holds r c u) ∙ none_below p rs (r.last + 1) c o (omega arith)

pub beyond_first : (p : Range → Bool) (r : Range) (rs : List Range) (c : ℕ) → r.last < c → in_set p (r ∷ rs) c ≡ in_set p rs c
beyond_first p r rs c l = not_first p r rs c (beyond_holds r c l)

-- parts of a list in order are in order
lower : (lo lo' : ℕ) (rs : List Range) → lo' ≤ lo → ordered lo rs ≡ true → ordered lo' rs ≡ true
lower lo lo' [] l h = refl
lower lo lo' (r ∷ rs) l h =
    let f = first_of lo r rs h in
    let a = f.low in
    first_from lo' r rs (omega arith) f.is_whole f.behind

pub front_ordered : (lo : ℕ) (front back : List Range) → ordered lo (front ++ back) ≡ true → ordered lo front ≡ true
front_ordered lo [] back h = refl
front_ordered lo (r ∷ front) back h =
    let f = first_of lo r (front ++ back) h in
    first_from lo r front f.low f.is_whole (front_ordered (r.last + 1) front back f.behind)

pub back_ordered : (lo : ℕ) (front back : List Range) → ordered lo (front ++ back) ≡ true → ordered lo back ≡ true
back_ordered lo [] back h = h
back_ordered lo (r ∷ front) back h =
    let f = first_of lo r (front ++ back) h in
    let a = f.low in
    let b = f.not_empty in
    lower (r.last + 1) lo back (omega arith) (back_ordered (r.last + 1) front back f.behind)

-- what is below the back is in the front, and what is not below the back is there
pub in_front : (p : Range → Bool) (front back : List Range) (lo c : ℕ) → ordered lo back ≡ true → c < lo → in_set p (front ++ back) c ≡ in_set p front c
in_front p [] back lo c h l = none_below p back lo c h l
in_front p (r ∷ front) back lo c h l = ap (λ b. (holds r c && p r) || b) (in_front p front back lo c h l)

pub in_back : (p : Range → Bool) (lo : ℕ) (front : List Range) (r : Range) (back : List Range) (c : ℕ)
    → ordered lo (front ++ r ∷ back) ≡ true → r.first ≤ c → in_set p (front ++ r ∷ back) c ≡ in_set p (r ∷ back) c
in_back p lo [] r back c h l = refl
in_back p lo (x ∷ front) r back c h l =
    let f = first_of lo x (front ++ r ∷ back) h in
    let g = first_of (x.last + 1) r back (back_ordered (x.last + 1) front (r ∷ back) f.behind) in
    let a = g.low in
    beyond_first p x (front ++ r ∷ back) c (omega arith) ∙ in_back p (x.last + 1) front r back c f.behind l
