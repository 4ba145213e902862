-- A document and the plain machine go side by side: at every moment of a run they have frames and items alike.
-- Assumes nothing.
use Rattle.std.proofs.Common.{◌≡◌, ℕ, suc, ◌+◌, ◌≤◌, Bool, true, false, cond, not, eqb, ◌⊎◌, List, [], ◌∷◌, length, Some, None, sym, refl, ap, ◌∙◌, subst, inl, inr, ⊎_elim, arith}
use Rattle.std.proofs.lemmas.Bool.{both_ways, true≢false, false≢true, not-false, and_parts, and_cases, eqb-true, eqb-false, not_from_true, not_from_false}
use Rattle.grammar.specs.Trees.{Tree, ∅}
use Rattle.grammar.specs.Readings.{Extension, implicit_some, unwrap_newtypes}
use Rattle.model.specs.Settings.{Settings, on}
use Rattle.model.specs.Requests.{Ticket, Value, none, a_bool, an_integer, a_float, a_char, a_str, bytes, unit, unit_struct, unit_variant, Opening, some, newtype_struct, newtype_variant, seq, tuple, tuple_struct, tuple_variant, kind_of, Request, put, start, end, abandon, finish, Call, value, opening, ending, call_of}
use Rattle.model.specs.States.{Table, Frame, State, fresh, counted, below}
use Rattle.model.specs.Beginnings.{beginning_refusal, begun}
use Rattle.model.specs.Heads.{silent, bracket, head}
use Rattle.model.specs.Places.{kind_place, single, shows, has_value, lacks_value, unfinished, refusal}
use Rattle.model.specs.Steps.{depth_past, depth_inside, depth_outside, effect}
use Rattle.model.specs.Making.{Style, Held, Made, one_if_some, silent_somes, in_order, grouped, item, result, add, close, make_if, made, writes_alone, OneWholeValue}
use Rattle.model.specs.Runs.{Run, beginning, reached, accepted, style_of}
use Rattle.model.specs.Promises.{WholeValuesAloneFinish}
use Rattle.model.specs.declared.kind.Kind.{Kind}
use Rattle.model.specs.declared.kind.Kind.TheVariants as kinds
use Rattle.model.proofs.Testing.{some_is, passes, passes_if, either_way}
use Rattle.model.proofs.Stepping.{always, admitted, ends_well, accepts_open, reached_keeps}

-- two frames alike, where n of the elements have no item yet
pub record Stands (n : ℕ) (f : Frame) (h : Held) : Type 0 where
  pub kind : f.kind ≡ kind_of h.opener
  pub elements : f.elements ≡ length h.items + n
  pub one : single f.kind ≡ true → f.elements ≤ 1

-- so all frames: each but the innermost has a child under way
abbrev pub AllStand : ℕ → List Frame → List Held → Type 0
AllStand n [] [] = Unit {0}
AllStand n [] (h ∷ hs) = ⊥
AllStand n (f ∷ fs) [] = ⊥
AllStand n (f ∷ fs) (h ∷ hs) = Stands n f h × AllStand 1 fs hs

-- the top has its item or none; while a frame is open it has none yet
abbrev pub TopStands : List Frame → Bool → List Tree → Type 0
TopStands [] filled top = ((filled ≡ false) × (top ≡ [])) ⊎ ((filled ≡ true) × (t : Tree) × (top ≡ t ∷ []))
TopStands (f ∷ fs) filled top = (filled ≡ true) × (top ≡ [])

-- a document's frames, whether its top is filled, and its `implicit_some_depth`, beside the machine's frames and top
pub record Follows (ext : Extension → Bool) (fs : List Frame) (filled : Bool) (depth : ℕ) (hs : List Held) (ts : List Tree) : Type 0 where
  pub frames : AllStand 0 fs hs
  pub top : TopStands fs filled ts
  -- where a value can stand, the depth counts the silent Somes around it
  pub waits : has_value fs filled ≡ false → depth ≡ silent_somes ext hs
  -- elsewhere it may be 0 already
  pub stale : (depth ≡ 0) ⊎ (depth ≡ silent_somes ext hs)

-- a silent frame holds one value
pub silent_single : (ext : Extension → Bool) (k : Kind) → silent ext k ≡ true → single k ≡ true
silent_single ext kinds.Some h = refl
silent_single ext kinds.NewtypeStruct h = refl
silent_single ext kinds.NewtypeVariant h = refl
silent_single ext kinds.Seq h = h
silent_single ext kinds.Tuple h = h
silent_single ext kinds.TupleStruct h = h
silent_single ext kinds.TupleVariant h = h

-- so one that holds several ends the count of silent Somes
loud : (ext : Extension → Bool) (k : Kind) (n : ℕ) → single k ≡ false → cond (silent ext k) (one_if_some k n) 0 ≡ 0
loud ext k n h = step (silent ext k) refl
  where
    step : (b : Bool) → silent ext k ≡ b → cond b (one_if_some k n) 0 ≡ 0
    step false e = refl
    step true e = absurd (both_ways (single k) h (silent_single ext k e))

-- without `IMPLICIT_SOME` no Some is silent
no_silent_some : (ext : Extension → Bool) → ext implicit_some ≡ false → (hs : List Held) → silent_somes ext hs ≡ 0
no_silent_some ext e [] = refl
no_silent_some ext e (h ∷ hs) = step (kind_of h.opener) (silent_somes ext hs) (no_silent_some ext e hs)
  where
    newtype : (b : Bool) (n : ℕ) → n ≡ 0 → cond b n 0 ≡ 0
    newtype true n q = q
    newtype false n q = refl

    step : (k : Kind) (n : ℕ) → n ≡ 0 → cond (silent ext k) (one_if_some k n) 0 ≡ 0
    step kinds.Some n q = ap (λ b. cond b (suc n) 0) e
    step kinds.NewtypeStruct n q = newtype (ext unwrap_newtypes) n q
    step kinds.NewtypeVariant n q = refl
    step kinds.Seq n q = refl
    step kinds.Tuple n q = refl
    step kinds.TupleStruct n q = refl
    step kinds.TupleVariant n q = refl

-- where a value can stand, the frame holds several or has none yet
place_free : (f : Frame) (fs : List Frame) (filled : Bool) → has_value (f ∷ fs) filled ≡ false → (single f.kind ≡ false) ⊎ (f.elements ≡ 0)
place_free f fs filled e = ⊎_elim (λ n. inl n) (λ n. inr (eqb-true f.elements 0 (not-false _ n))) (and_cases (single f.kind) (not (eqb f.elements 0)) e)

-- one more element is begun where a value can stand
begun_stand : (fs : List Frame) (filled : Bool) (hs : List Held) → has_value fs filled ≡ false → AllStand 0 fs hs → AllStand 1 (counted fs) hs
begun_stand [] filled [] e a = tt
begun_stand [] filled (h ∷ hs) e a = absurd a
begun_stand (f ∷ fs) filled [] e a = absurd a
begun_stand (f ∷ fs) filled (h ∷ hs) e (a, rest) = (
  record {
    kind = a.kind;
    elements = omega (arith, a.elements);
    one = λ q. ⊎_elim (λ n. absurd (both_ways _ n q)) (λ n. omega (arith, n)) (place_free f fs filled e);
  },
  rest,
)

-- the element that was begun has its item
one_more : (t : Tree) (xs top : List Tree) (fs : List Frame) (hs : List Held) → xs ≡ t ∷ [] → AllStand 1 fs hs → AllStand 0 fs (add xs hs top).frames
one_more t xs top [] [] e a = tt
one_more t xs top [] (h ∷ hs) e a = absurd a
one_more t xs top (f ∷ fs) [] e a = absurd a
one_more t xs top (f ∷ fs) (h ∷ hs) e (a, rest) = (
  record {
    kind = a.kind;
    elements = a.elements ∙ rw e (omega arith);
    one = a.one;
  },
  rest,
)

-- the top is empty where a value can stand, and has the item of what ends there
pub empty_top : (fs : List Frame) (filled : Bool) (top : List Tree) → has_value fs filled ≡ false → TopStands fs filled top → top ≡ []
empty_top [] filled top e (inl (p, q)) = q
empty_top [] filled top e (inr (p, t, q)) = absurd (both_ways filled e p)
empty_top (f ∷ fs) filled top e (p, q) = q

top_more : (t : Tree) (xs top : List Tree) (n : ℕ) (fs : List Frame) (hs : List Held) → xs ≡ t ∷ [] → top ≡ [] → AllStand n fs hs → TopStands fs true (add xs hs top).top
top_more t xs top n [] [] e q a = inr (refl, t, rw (e, q))
top_more t xs top n [] (h ∷ hs) e q a = absurd a
top_more t xs top n (f ∷ fs) [] e q a = absurd a
top_more t xs top n (f ∷ fs) (h ∷ hs) e q a = (refl, q)

-- items change no opener
same_somes : (ext : Extension → Bool) (xs : List Tree) (hs : List Held) (top : List Tree) → silent_somes ext (add xs hs top).frames ≡ silent_somes ext hs
same_somes ext xs [] top = refl
same_somes ext xs (h ∷ hs) top = refl

-- behind an element a value can stand only where no frame around it is silent
waits_behind : (ext : Extension → Bool) (d : ℕ) (fs : List Frame) (hs : List Held) → AllStand 1 fs hs → (d ≡ 0) ⊎ (d ≡ silent_somes ext hs) → has_value fs true ≡ false → d ≡ silent_somes ext hs
waits_behind ext d [] hs a st e = absurd (true≢false e)
waits_behind ext d (f ∷ fs) [] a st e = absurd a
waits_behind ext d (f ∷ fs) (h ∷ hs) (a, rest) st e =
    let multiple : single f.kind ≡ false = ⊎_elim (λ n. n) (λ n. absurd (omega (arith, n, a.elements))) (place_free f fs true e) in
    let quiet : silent_somes ext (h ∷ hs) ≡ 0 = loud ext (kind_of h.opener) (silent_somes ext hs) (ap single (sym a.kind) ∙ multiple) in
    ⊎_elim (λ z. z ∙ sym quiet) (λ z. z) st

-- an element with its item, by a value or by the end of a frame
added : (ext : Extension → Bool) (d : ℕ) (t : Tree) (xs top : List Tree) (fs : List Frame) (hs : List Held) → xs ≡ t ∷ [] → top ≡ [] → AllStand 1 fs hs → (d ≡ 0) ⊎ (d ≡ silent_somes ext hs) → Follows ext fs true d (add xs hs top).frames (add xs hs top).top
added ext d t xs top fs hs e q a st =
    let same = same_somes ext xs hs top in
    record {
      frames = one_more t xs top fs hs e a;
      top = top_more t xs top 1 fs hs e q a;
      waits = λ n. waits_behind ext d fs hs a st n ∙ sym same;
      stale = ⊎_elim (λ z. inl z) (λ z. inr (z ∙ sym same)) st;
    }

-- what the depth is behind a value, with n silent Somes around it
past_value : (v : Value) (d n : ℕ) → d ≡ n → (depth_past v d ≡ 0) ⊎ (depth_past v d ≡ n)
past_value none d n e = inl refl
past_value (a_bool b) d n e = inr e
past_value (an_integer type x) d n e = inr e
past_value (a_float width x) d n e = inr e
past_value (a_char c) d n e = inr e
past_value (a_str x) d n e = inr e
past_value (bytes x) d n e = inr e
past_value unit d n e = inr e
past_value (unit_struct name) d n e = inr e
past_value (unit_variant name variant) d n e = inr e

pub value_follows : (y : Style) (fs : List Frame) (filled : Bool) (d : ℕ) (hs : List Held) (top : List Tree) (v : Value) → has_value fs filled ≡ false → Follows y.on fs filled d hs top → Follows y.on (counted fs) true (depth_past v d) (add (item y hs v ∷ []) hs top).frames (add (item y hs v ∷ []) hs top).top
value_follows y fs filled d hs top v e w =
    added y.on (depth_past v d) (item y hs v) (item y hs v ∷ []) top (counted fs) hs refl (empty_top fs filled top e w.top) (begun_stand fs filled hs e w.frames) (past_value v d (silent_somes y.on hs) (w.waits e))

-- what the depth is in a new frame
inside_opening : (s : Settings) (d : ℕ) (hs : List Held) (o : Opening) → d ≡ silent_somes (on s) hs → depth_inside s (kind_of o) d ≡ cond (silent (on s) (kind_of o)) (one_if_some (kind_of o) (silent_somes (on s) hs)) 0
inside_opening s d hs some e = step (on s implicit_some) refl
  where
    step : (b : Bool) → on s implicit_some ≡ b → cond b (suc d) d ≡ cond b (suc (silent_somes (on s) hs)) 0
    step true q = ap suc e
    step false q = e ∙ no_silent_some (on s) q hs
inside_opening s d hs (newtype_struct name) e = ap (λ n. cond (on s unwrap_newtypes) n 0) e
inside_opening s d hs (newtype_variant name variant) e = refl
inside_opening s d hs (seq len) e = refl
inside_opening s d hs (tuple len) e = refl
inside_opening s d hs (tuple_struct name len) e = refl
inside_opening s d hs (tuple_variant name variant len) e = refl

pub opening_follows : (s : Settings) (fs : List Frame) (filled : Bool) (d : ℕ) (hs : List Held) (top : List Tree) (o : Opening) → has_value fs filled ≡ false → Follows (on s) fs filled d hs top → Follows (on s) (fresh (kind_of o) ∷ counted fs) true (depth_inside s (kind_of o) d) (record { opener = o; items = [] } ∷ hs) top
opening_follows s fs filled d hs top o e w = record {
  frames = (record { kind = refl; elements = refl; one = λ q. omega arith }, begun_stand fs filled hs e w.frames);
  top = (refl, empty_top fs filled top e w.top);
  waits = λ _. inside_opening s d hs o (w.waits e);
  stale = inr (inside_opening s d hs o (w.waits e));
}

-- what the depth is behind a frame of this kind, with n silent Somes around it
outside : (s : Settings) (k : Kind) (d n : ℕ) → (d ≡ 0) ⊎ (d ≡ cond (silent (on s) k) (one_if_some k n) 0) → (depth_outside s k d ≡ 0) ⊎ (depth_outside s k d ≡ n)
outside s kinds.Some d n st = step (on s implicit_some) st
  where
    step : (b : Bool) → (d ≡ 0) ⊎ (d ≡ cond b (suc n) 0) → (cond b 0 d ≡ 0) ⊎ (cond b 0 d ≡ n)
    step true q = inl refl
    step false (inl q) = inl q
    step false (inr q) = inl q
outside s kinds.NewtypeStruct d n st = step (on s unwrap_newtypes) st
  where
    step : (b : Bool) → (d ≡ 0) ⊎ (d ≡ cond b n 0) → (d ≡ 0) ⊎ (d ≡ n)
    step b (inl q) = inl q
    step true (inr q) = inr q
    step false (inr q) = inl q
outside s kinds.NewtypeVariant d n st = ⊎_elim (λ q. inl q) (λ q. inl q) st
outside s kinds.Seq d n st = ⊎_elim (λ q. inl q) (λ q. inl q) st
outside s kinds.Tuple d n st = ⊎_elim (λ q. inl q) (λ q. inl q) st
outside s kinds.TupleStruct d n st = ⊎_elim (λ q. inl q) (λ q. inl q) st
outside s kinds.TupleVariant d n st = ⊎_elim (λ q. inl q) (λ q. inl q) st

one_item : (xs : List Tree) → length xs ≡ 1 → (t : Tree) × (xs ≡ t ∷ [])
one_item [] e = absurd (omega arith)
one_item (t ∷ []) e = (t, refl)
one_item (t ∷ u ∷ xs) e = absurd (omega arith)

-- a frame that does not lack its value becomes one item
one_result : (y : Style) (f : Frame) (fs : List Frame) (h : Held) → Stands 0 f h → lacks_value (f ∷ fs) ≡ false → (t : Tree) × (result y h ≡ t ∷ [])
one_result y f fs h a e = step (silent y.on (kind_of h.opener)) refl
  where
    group : Tree
    group = grouped (bracket (kind_of h.opener)) (head y.names h.opener) (in_order h.items ∅)

    step : (b : Bool) → silent y.on (kind_of h.opener) ≡ b → (t : Tree) × (cond b h.items (group ∷ []) ≡ t ∷ [])
    step false q = (group, refl)
    step true q =
        let one : single f.kind ≡ true = ap single a.kind ∙ silent_single y.on _ q in
        let some : eqb f.elements 0 ≡ false = ⊎_elim (λ n. absurd (both_ways (single f.kind) n one)) (λ n. n) (and_cases (single f.kind) (eqb f.elements 0) e) in
        one_item h.items (omega (arith, a.elements, a.one one, eqb-false f.elements 0 some))

pub end_follows : (s : Settings) (f : Frame) (fs : List Frame) (filled : Bool) (d : ℕ) (h : Held) (hs : List Held) (top : List Tree) → lacks_value (f ∷ fs) ≡ false → Follows (on s) (f ∷ fs) filled d (h ∷ hs) top → Follows (on s) fs filled (depth_outside s f.kind d) (add (result (style_of s) h) hs top).frames (add (result (style_of s) h) hs top).top
end_follows s f fs filled d h hs top e w =
    let y = style_of s in
    let r = one_result y f fs h w.frames.0 e in
    let somes = λ (k : Kind). cond (silent (on s) k) (one_if_some k (silent_somes (on s) hs)) 0 in
    let st = outside s f.kind d (silent_somes (on s) hs) (⊎_elim (λ z. inl z) (λ z. inr (z ∙ ap somes (sym w.frames.0.kind))) w.stale) in
    let done = added (on s) (depth_outside s f.kind d) r.0 (result y h) top fs hs r.1 w.top.1 w.frames.1 st in
    subst (λ b. Follows (on s) fs b (depth_outside s f.kind d) (add (result y h) hs top).frames (add (result y h) hs top).top) (sym w.top.0) done

-- a document beside its settings and the calls that it accepted: it is open, and the machine stands as it does; or it is closed
pub data Following (p : State) (s : Settings) (cs : List Call) : Type 0 where
  goes_on : p.closed ≡ false → (m : Made) → made (style_of s) cs ≡ Some m → Follows (on s) p.frames p.filled p.implicit_some_depth m.frames m.top → writes_alone cs ≡ true → Following p s cs
  is_over : p.closed ≡ true → (cs ≡ []) ⊎ (writes_alone cs ≡ false) → Following p s cs

-- the kinds have places apart
pub same_kind : (k l : Kind) → eqb (kind_place k) (kind_place l) ≡ true → k ≡ l
same_kind k l e = sym (back k) ∙ ap kind_at (eqb-true (kind_place k) (kind_place l) e) ∙ back l
  where
    kind_at : ℕ → Kind
    kind_at n = cond (eqb n 0) kinds.Some (cond (eqb n 1) kinds.NewtypeStruct (cond (eqb n 2) kinds.NewtypeVariant (cond (eqb n 3) kinds.Seq (cond (eqb n 4) kinds.Tuple (cond (eqb n 5) kinds.TupleStruct kinds.TupleVariant)))))

    back : (k : Kind) → kind_at (kind_place k) ≡ k
    back kinds.Some = refl
    back kinds.NewtypeStruct = refl
    back kinds.NewtypeVariant = refl
    back kinds.Seq = refl
    back kinds.Tuple = refl
    back kinds.TupleStruct = refl
    back kinds.TupleVariant = refl

pub shown_kind : (f : Frame) (fs : List Frame) (t : Ticket) → shows (f ∷ fs) (Some t) ≡ true → t.kind ≡ f.kind
shown_kind f fs t e = same_kind t.kind f.kind (and_parts _ _ e).0

-- an end finds a frame open, whose ticket is shown
ends : (s : Settings) (fs : List Frame) (filled : Bool) (d : ℕ) (t : Ticket) (hs : List Held) (top : List Tree) → shows fs (Some t) ≡ true → lacks_value fs ≡ false → Follows (on s) fs filled d hs top
    → (m : Made) × (close (style_of s) hs top ≡ Some m) × Follows (on s) (below fs) filled (depth_outside s t.kind d) m.frames m.top
ends s [] filled d t hs top e q w = absurd (false≢true e)
ends s (f ∷ fs) filled d t [] top e q w = absurd w.frames
ends s (f ∷ fs) filled d t (h ∷ hs) top e q w = (
  add (result (style_of s) h) hs top,
  refl,
  subst (λ k. Follows (on s) fs filled (depth_outside s k d) (add (result (style_of s) h) hs top).frames (add (result (style_of s) h) hs top).top) (sym (shown_kind f fs t e)) (end_follows s f fs filled d h hs top q w),
)

-- one accepted request
follows_on : (p : State) (cs : List Call) (r : Request) → refusal p r ≡ None → Following p p.settings cs → Following (effect p r) (effect p r).settings (call_of r ∷ cs)
follows_on p cs r e (is_over c d) = absurd (both_ways _ (accepts_open p r e) c)
follows_on p cs (put t v) e (goes_on c m q w a) =
    let h = admitted p t (passes _ _ e).0 in
    goes_on c _ (ap (λ o. make_if (style_of p.settings) o (value v)) q) (value_follows (style_of p.settings) p.frames p.filled p.implicit_some_depth m.frames m.top v h.place w) a
follows_on p cs (start t o) e (goes_on c m q w a) =
    let h = admitted p t (passes _ _ e).0 in
    goes_on c _ (ap (λ x. make_if (style_of p.settings) x (opening o)) q) (opening_follows p.settings p.frames p.filled p.implicit_some_depth m.frames m.top o h.place w) a
follows_on p cs (end t) e (goes_on c m q w a) =
    let h = ends_well p t e in
    let x = ends p.settings p.frames p.filled p.implicit_some_depth t m.frames m.top h.0 h.1 w in
    goes_on c x.0 (ap (λ o. make_if (style_of p.settings) o ending) q ∙ x.1) x.2 a
follows_on p cs abandon e (goes_on c m q w a) = is_over refl (inr refl)
follows_on p cs finish e (goes_on c m q w a) = is_over refl (inr refl)

-- a new document and the machine are both empty
starts_alike : (t : Table) (s : Settings) (space : ℕ) → Following (begun t s space) (begun t s space).settings []
starts_alike t s space =
    either_way (λ (q : State). Following q q.settings []) (beginning_refusal s space) _ _
    (goes_on refl _ refl (record { frames = tt; top = inl (refl, refl); waits = λ _. refl; stale = inl refl }) refl)
    (λ e. is_over refl (inl refl))

pub following : (run : Run) → Following (reached run) run.settings (accepted run)
following run =
    subst (λ z. Following (reached run) z (accepted run)) (reached_keeps run).1
    (always (λ p cs. Following p p.settings cs) (beginning run) (starts_alike run.table run.settings run.space) follows_on run.requests)

-- an open document has a machine beside it
abbrev pub Beside : State → Settings → List Call → Type 0
Beside p s cs = (m : Made) × (made (style_of s) cs ≡ Some m) × Follows (on s) p.frames p.filled p.implicit_some_depth m.frames m.top

pub goes_beside : (p : State) (s : Settings) (cs : List Call) → Following p s cs → p.closed ≡ false → Beside p s cs
goes_beside p s cs (goes_on c m q w a) e = (m, q, w)
goes_beside p s cs (is_over c d) e = absurd (both_ways _ e c)

-- a document that can be finished has one item, and so has the machine
whole : (fs : List Frame) (filled : Bool) (hs : List Held) (top : List Tree) → unfinished fs filled ≡ false → AllStand 0 fs hs → TopStands fs filled top → (hs ≡ []) × (t : Tree) × (top ≡ t ∷ [])
whole [] filled [] top e a (inl (p, q)) = absurd (both_ways _ e (not_from_false filled p))
whole [] filled [] top e a (inr (p, t, q)) = (refl, t, q)
whole [] filled (h ∷ hs) top e a w = absurd a
whole (f ∷ fs) filled hs top e a w = absurd (true≢false e)

-- where the machine has one item and no frame, nothing is unfinished
whole_back : (fs : List Frame) (filled : Bool) (hs : List Held) (top : List Tree) (t : Tree) → hs ≡ [] → top ≡ t ∷ [] → AllStand 0 fs hs → TopStands fs filled top → unfinished fs filled ≡ false
whole_back [] filled hs top t p q a (inl (e, z)) = absurd (omega (arith, ap length (sym z ∙ q)))
whole_back [] filled hs top t p q a (inr (e, u, z)) = not_from_true filled e
whole_back (f ∷ fs) filled [] top t p q a w = absurd a
whole_back (f ∷ fs) filled (h ∷ hs) top t p q a w = absurd (omega (arith, ap length p))

finishes_whole : (p : State) (s : Settings) (cs : List Call) → Following p s cs → refusal p finish ≡ None → OneWholeValue (style_of s) cs
finishes_whole p s cs (is_over c d) e = absurd (both_ways _ (accepts_open p finish e) c)
finishes_whole p s cs (goes_on c m q w a) e =
    let x = whole p.frames p.filled m.frames m.top (passes_if _ _ (passes _ _ e).1) w.frames w.top in
    (a, x.1, q ∙ (λ i. Some (record { frames = x.0 i; top = x.2 i })))

whole_finishes : (p : State) (s : Settings) (cs : List Call) → Following p s cs → OneWholeValue (style_of s) cs → refusal p finish ≡ None
whole_finishes p s cs (is_over c (inl z)) (a, t, e) = absurd (omega (arith, ap (λ m. length m.top) (some_is (sym (ap (made (style_of s)) z) ∙ e))))
whole_finishes p s cs (is_over c (inr z)) (a, t, e) = absurd (both_ways _ z a)
whole_finishes p s cs (goes_on c m q w b) (a, t, e) =
    let same : m ≡ record { frames = []; top = t ∷ [] } = some_is (sym q ∙ e) in
    rw (c, whole_back p.frames p.filled m.frames m.top t (ap (λ z. z.frames) same) (ap (λ z. z.top) same) w.frames w.top)

pub whole_values_alone_finish : WholeValuesAloneFinish
whole_values_alone_finish run = (finishes_whole (reached run) run.settings (accepted run) (following run), whole_finishes (reached run) run.settings (accepted run) (following run))
