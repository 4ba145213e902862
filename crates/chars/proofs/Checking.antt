-- One pass over the ranges decides whether the list is a table.
use Rattle.std.proofs.Common.{◌≡◌, ℕ, ◌+◌, ◌<◌, ◌≤◌, max, Bool, true, false, not, ◌&&◌, ◌||◌, eqb, ltb, leb, ◌⊎◌, List, [], ◌∷◌, length, get_or, drop, Decides, sym, refl, ap, ◌∙◌, inl, inr, ⊎_elim, arith}
use mathlib.Core.Bool.{beq}
use Rattle.std.proofs.lemmas.List.{at_drop_more}
use Rattle.std.proofs.lemmas.Bool.{and_parts, and_from, or_left, or_right, or_cases, or_parts, not_from_false, cases_lt, cases_Bool, leb-true, leb-false, le-leb, ltb-true, ltb-false, eq-eqb, both_ways, false≢true}
use Rattle.std.proofs.lemmas.Bool.Decides.{nat_tests, Decides-and, Decides-below_and}
use Rattle.chars.specs.declared.ranges.Range.{Range}
use Rattle.chars.specs.Blanks.{none_in}
use Rattle.chars.proofs.Apart.{not_in}
use Rattle.chars.specs.Blanks.{among, blank, blanks}
use Rattle.chars.specs.Tables.{letter, word, printable}
use Rattle.chars.specs.Ranges.{IsTable, starting, continuing, showing, holds, in_set, whole, ordered}
use Rattle.chars.specs.RangeChecks.{gap, agreeing, classed, each_below, fits, good_from, good}
use Rattle.chars.proofs.InOrder.{first_of, first_from, between_holds, in_first, below_first, beyond_first}

-- The laws of tables at one character, by whether it is in each of the three sets
record Law (s k w : Bool) (c : ℕ) : Type 0 where
  on : s ≡ true → k ≡ true
  letters : c < 0x80 → s ≡ letter c
  words : c < 0x80 → k ≡ word c
  prints : c < 0x80 → w ≡ printable c
  no_blank : blank c ≡ true → k ≡ false

-- each f p is whether the character is in the set p
same_law : (f g : (Range → Bool) → Bool) (c : ℕ) → ((p : Range → Bool) → g p ≡ f p) → Law (f starting) (f continuing) (f showing) c
    → Law (g starting) (g continuing) (g showing) c
same_law f g c e l = record {
  on = λ h. e continuing ∙ l.on (sym (e starting) ∙ h);
  letters = λ u. e starting ∙ l.letters u;
  words = λ u. e continuing ∙ l.words u;
  prints = λ u. e showing ∙ l.prints u;
  no_blank = λ b. e continuing ∙ l.no_blank b;
}

-- A gap
bare : (c : ℕ) → (c < 0x20) ⊎ (0x7E < c) → Law false false false c
bare c h = record {
  on = λ e. e;
  letters = λ u. grind (arith, nat_tests);
  words = λ u. grind (arith, nat_tests);
  prints = λ u. grind (arith, nat_tests);
  no_blank = λ _. refl;
}

gap_tells : (lo hi : ℕ) → gap lo hi ≡ true → (c : ℕ) → lo ≤ c → c < hi → Law false false false c
gap_tells lo hi h c l u =
    ⊎_elim
    (λ e. absurd (omega (arith, leb-true hi lo e)))
    (λ e. ⊎_elim
    (λ f. bare c (inl (omega (arith, leb-true hi 0x20 f))))
    (λ f. bare c (inr (omega (arith, ltb-true 0x7E lo f))))
    (or_cases (leb hi 0x20) (ltb 0x7E lo) e))
    (or_cases (leb hi lo) (leb hi 0x20 || ltb 0x7E lo) h)

-- else its first printable character tells
tells_gap : (lo hi : ℕ) → ((c : ℕ) → lo ≤ c → c < hi → Law false false false c) → gap lo hi ≡ true
tells_gap lo hi h = ⊎_elim (λ e. e) (λ e. absurd (never e)) (cases_Bool (gap lo hi))
  where
    never : gap lo hi ≡ false → ⊥
    never e =
        let a = or_parts (leb hi lo) (leb hi 0x20 || ltb 0x7E lo) e in
        let b = or_parts (leb hi 0x20) (ltb 0x7E lo) a.1 in
        let x = leb-false hi lo a.0 in
        let y = leb-false hi 0x20 b.0 in
        let z = ltb-false 0x7E lo b.1 in
        let c = max lo 0x20 in
        false≢true ((h c (omega arith) (omega arith)).prints (omega arith) ∙ and_from (leb 0x20 c) (leb c 0x7E) (le-leb 0x20 c (omega arith)) (le-leb c 0x7E (omega arith)))

-- One range
implies : (a b : Bool) → (not a || b) ≡ true → a ≡ true → b ≡ true
implies true b h e = h
implies false b h e = absurd (false≢true e)

implied : (a b : Bool) → (a ≡ true → b ≡ true) → (not a || b) ≡ true
implied true b h = h refl
implied false b h = refl

decides_beq : (a b : Bool) → Decides (beq a b) (a ≡ b)
decides_beq true true = (λ _. refl, λ _. refl)
decides_beq true false = (λ h. absurd (false≢true h), λ e. sym e)
decides_beq false true = (λ h. h, λ e. e)
decides_beq false false = (λ _. refl, λ _. refl)

agrees : (r : Range) (c : ℕ) → Decides (agreeing r c) ((r.start ≡ letter c) × ((r.continues ≡ word c) × (r.shown ≡ printable c)))
agrees r c =
    Decides-and _ _ (decides_beq r.start (letter c)) (Decides-and _ _ (decides_beq r.continues (word c)) (decides_beq r.shown (printable c)))

below_decides : (n : ℕ) (p : ℕ → Bool) → Decides (each_below n p) ((c : ℕ) → c < n → p c ≡ true)
unfolding each_below
below_decides n p = Decides-below_and p (λ c. p c ≡ true) (λ k. each_below k p) (λ k. (λ h. h, λ h. h)) refl (λ _. refl) n

pub classed_tells : (r : Range) → classed r ≡ true → (c : ℕ) → r.first ≤ c → c ≤ r.last → c < 0x80 → agreeing r c ≡ true
classed_tells r h c l u v =
    implies (holds r c) (agreeing r c) ((below_decides 0x80 (λ k. not (holds r k) || agreeing r k)).0 h c v) (between_holds r c l u)

pub tells_classed : (r : Range) → ((c : ℕ) → r.first ≤ c → c ≤ r.last → c < 0x80 → agreeing r c ≡ true) → classed r ≡ true
tells_classed r h =
    (below_decides 0x80 (λ k. not (holds r k) || agreeing r k)).1
    (λ c v. implied (holds r c) (agreeing r c)
    (λ e. let a = and_parts (leb r.first c) (leb c r.last) e in h c (leb-true r.first c a.0) (leb-true c r.last a.1) v))

none_from : (p : ℕ → Bool) (ds : List ℕ) → ((c : ℕ) → among ds c ≡ true → p c ≡ false) → none_in p ds ≡ true
none_from p [] h = refl
none_from p (d ∷ ds) h =
    and_from (not (p d)) (none_in p ds) (not_from_false (p d) (h d (or_left (eqb d d) (among ds d) (eq-eqb d d refl))))
    (none_from p ds (λ c e. h c (or_right (eqb c d) (among ds c) e)))

record Fit (lo : ℕ) (r : Range) : Type 0 where
  low : lo ≤ r.first
  is_whole : whole r ≡ true
  before : (c : ℕ) → lo ≤ c → c < r.first → Law false false false c
  inside : (c : ℕ) → r.first ≤ c → c ≤ r.last → Law r.start r.continues r.shown c

fit : (lo : ℕ) (r : Range) → fits lo r ≡ true → Fit lo r
fit lo r h =
    let a = and_parts (leb lo r.first) _ h in
    let b = and_parts (whole r) _ a.1 in
    let d = and_parts (not r.start || r.continues) _ b.1 in
    let e = and_parts (gap lo r.first) _ d.1 in
    let f = and_parts (classed r) (not r.continues || none_in (holds r) blanks) e.1 in
    record {
      low = leb-true lo r.first a.0;
      is_whole = b.0;
      before = gap_tells lo r.first e.0;
      inside = λ c l u. record {
        on = implies r.start r.continues d.0;
        letters = λ v. ((agrees r c).0 (classed_tells r f.0 c l u v)).0;
        words = λ v. ((agrees r c).0 (classed_tells r f.0 c l u v)).1.0;
        prints = λ v. ((agrees r c).0 (classed_tells r f.0 c l u v)).1.1;
        no_blank = λ x.
            ⊎_elim
            (λ k. absurd (both_ways (holds r c) (not_in (holds r) blanks c (implies r.continues (none_in (holds r) blanks) f.1 k) x) (between_holds r c l u)))
            (λ k. k)
            (cases_Bool r.continues);
      };
    }

-- that starts are continues is seen at the range's first character
from_fit : (lo : ℕ) (r : Range) → r.first ≤ r.last → Fit lo r → fits lo r ≡ true
from_fit lo r n f =
    and_from _ _ (le-leb lo r.first f.low)
    (and_from _ _ f.is_whole
    (and_from _ _ (implied r.start r.continues (f.inside r.first (omega arith) n).on)
    (and_from _ _ (tells_gap lo r.first f.before)
    (and_from _ _ (tells_classed r (λ c l u v. let k = f.inside c l u in (agrees r c).1 (k.letters v, (k.words v, k.prints v))))
    (implied r.continues (none_in (holds r) blanks) (λ k. none_from (holds r) blanks (λ c x. ⊎_elim (λ e. absurd (blank_held c k x e)) (λ e. e) (cases_Bool (holds r c)))))))))
  where
    blank_held : (c : ℕ) → r.continues ≡ true → blank c ≡ true → holds r c ≡ true → ⊥
    blank_held c k x e =
        let a = and_parts (leb r.first c) (leb c r.last) e in
        both_ways r.continues ((f.inside c (leb-true r.first c a.0) (leb-true c r.last a.1)).no_blank x) k

-- What is left of a list, where everything below lo is told
record Sound (lo : ℕ) (rs : List Range) : Type 0 where
  in_order : ordered lo rs ≡ true
  laws : (c : ℕ) → lo ≤ c → Law (in_set starting rs c) (in_set continuing rs c) (in_set showing rs c) c

join : (lo : ℕ) (r : Range) (rs : List Range) → Fit lo r → Sound (r.last + 1) rs → Sound lo (r ∷ rs)
join lo r rs f s =
    let o = first_from lo r rs f.low f.is_whole s.in_order in
    let n = (first_of lo r rs o).not_empty in
    record {
      in_order = o;
      laws = λ c l.
          ⊎_elim
          (λ b. same_law (λ _. false) (λ p. in_set p (r ∷ rs) c) c (λ p. below_first p r rs c s.in_order n b) (f.before c l b))
          (λ a. ⊎_elim
          (λ b. same_law (λ p. in_set p rs c) (λ p. in_set p (r ∷ rs) c) c (λ p. beyond_first p r rs c b) (s.laws c (omega arith)))
          (λ b. same_law (λ p. p r) (λ p. in_set p (r ∷ rs) c) c (λ p. in_first p r rs c s.in_order a b) (f.inside c a b))
          (cases_lt r.last c))
          (cases_lt c r.first);
    }

part : (lo : ℕ) (r : Range) (rs : List Range) → Sound lo (r ∷ rs) → Fit lo r × Sound (r.last + 1) rs
part lo r rs s =
    let o = first_of lo r rs s.in_order in
    let a = o.low in
    let n = o.not_empty in (
      record {
        low = a;
        is_whole = o.is_whole;
        before = λ c l u. same_law (λ p. in_set p (r ∷ rs) c) (λ _. false) c (λ p. sym (below_first p r rs c o.behind n u)) (s.laws c l);
        inside = λ c l u. same_law (λ p. in_set p (r ∷ rs) c) (λ p. p r) c (λ p. sym (in_first p r rs c o.behind l u)) (s.laws c (omega arith));
      },
      record {
        in_order = o.behind;
        laws = λ c l. same_law (λ p. in_set p (r ∷ rs) c) (λ p. in_set p rs c) c (λ p. sym (beyond_first p r rs c (omega arith))) (s.laws c (omega arith));
      },
    )

sound : (lo : ℕ) (rs : List Range) → good_from lo rs ≡ true → Sound lo rs
unfolding good_from
sound lo [] h = record { in_order = refl; laws = λ c l. ⊎_elim (λ u. gap_tells lo 0x80 h c l u) (λ u. bare c (inr (omega arith))) (cases_lt c 0x80) }
sound lo (r ∷ rs) h =
    let a = and_parts (fits lo r) (good_from (r.last + 1) rs) h in
    join lo r rs (fit lo r a.0) (sound (r.last + 1) rs a.1)

from_sound : (lo : ℕ) (rs : List Range) → Sound lo rs → good_from lo rs ≡ true
unfolding good_from
from_sound lo [] s = tells_gap lo 0x80 (λ c l _. s.laws c l)
from_sound lo (r ∷ rs) s =
    let p = part lo r rs s in
    and_from (fits lo r) (good_from (r.last + 1) rs) (from_fit lo r (first_of lo r rs s.in_order).not_empty p.0) (from_sound (r.last + 1) rs p.1)

pub decides_table : (rs : List Range) → Decides (good rs) (IsTable rs)
decides_table rs = (made, told)
  where
    made : good rs ≡ true → IsTable rs
    made h =
        let a = and_parts (leb (length rs) 4096) (good_from 0 rs) h in
        let s = sound 0 rs a.1 in
        record {
          few = leb-true (length rs) 4096 a.0;
          in_order = s.in_order;
          lawful = record {
            start_continues = λ c. (s.laws c (omega arith)).on;
            ascii_starts = λ c. (s.laws c (omega arith)).letters;
            ascii_continues = λ c. (s.laws c (omega arith)).words;
            ascii_shown = λ c. (s.laws c (omega arith)).prints;
            no_blank_continues = λ c. (s.laws c (omega arith)).no_blank;
          };
        }

    told : IsTable rs → good rs ≡ true
    told t =
        let l = t.lawful in
        and_from (leb (length rs) 4096) (good_from 0 rs) (le-leb (length rs) 4096 t.few)
        (from_sound 0 rs (record {
          in_order = t.in_order;
          laws = λ c _. record {
            on = l.start_continues c;
            letters = l.ascii_starts c;
            words = l.ascii_continues c;
            prints = l.ascii_shown c;
            no_blank = l.no_blank_continues c;
          };
        }))

-- One turn of the pass: what is left decides, from the next range on
pub turn : (rs : List Range) (i lo : ℕ) (d : Range) (b g : Bool) → i < length rs → good_from lo (drop i rs) ≡ g → b ≡ fits lo (get_or rs i d)
    → (b && good_from ((get_or rs i d).last + 1) (drop (i + 1) rs)) ≡ g
unfolding good_from
turn rs i lo d b g l h e = ap (λ x. x && good_from ((get_or rs i d).last + 1) (drop (i + 1) rs)) e ∙ sym (at_drop_more (good_from lo) rs i d l) ∙ h
