-- The text of a document goes along with the plain machine: the machine's frames and items tell what every way to complete the text makes of it, and each accepted call keeps that true.
use Rattle.std.proofs.Common.{◌≡◌, ℕ, ◌+◌, Bool, true, false, cond, not, ◌&&◌, eqb, List, [], ◌∷◌, ◌++◌, length, None, sym, refl, ap, ◌∙◌, subst, append_assoc, append-nil, arith}
use Rattle.std.proofs.lemmas.Bool.{both_ways, true≢false, false≢true, eq-eqb, ne_eqb}
use Rattle.chars.specs.Tables.{Lawful}
use Rattle.grammar.specs.Trees.{Tree, ∅}
use Rattle.grammar.specs.Items.{Bracket, closing}
use Rattle.grammar.specs.Items as brackets
use Rattle.grammar.specs.ReadBack.{Spells}
use Rattle.model.specs.Settings.{Settings, on, names}
use Rattle.model.specs.Requests.{Value, BytesFit, Opening, kind_of, announced}
use Rattle.model.specs.States.{Table, Frame, Layout}
use Rattle.model.specs.Heads.{silent, bracket, head, head_bytes}
use Rattle.model.specs.Layouts.{before, entered, behind_opening, before_closing}
use Rattle.model.specs.Spellings.{value_bytes, opening_bytes, closing_bytes}
use Rattle.model.specs.Places.{single, has_value, lacks_value, value_refusal, opening_refusal}
use Rattle.model.specs.Making.{Held, in_order, item, result, add}
use Rattle.model.specs.Runs.{style_of}
use Rattle.model.proofs.Following.{Stands, AllStand, Follows, silent_single, empty_top}
use Rattle.model.proofs.Layouts.{Laid, before_silent, behind_opening_blank, before_first, before_next, closing_none, closing_behind}
use Rattle.model.proofs.Pieces.{value_back, opening_back}
use Rattle.model.proofs.Texts.{held, hushed, group_of, Slot, Ends, Opens, put_ends, open_opens, slot_silent, slot_first, slot_next, ends_silent, close_empty, close_behind}

-- how many elements there are, by the items
none_yet : (n : ℕ) → n ≡ length {A = Tree} [] + 0 → eqb n 0 ≡ true
none_yet n e = eq-eqb n 0 e

some_already : (n : ℕ) (x : Tree) (xs : List Tree) → n ≡ length (x ∷ xs) + 0 → eqb n 0 ≡ false
some_already n x xs e = ne_eqb n 0 (λ z. omega arith)

-- a silent frame holds one value
lone : (settings : Settings) (f : Frame) (h : Held) → Stands 0 f h → silent (on settings) (kind_of h.opener) ≡ true → single f.kind ≡ true
lone settings f h a k = ap single a.kind ∙ silent_single (on settings) (kind_of h.opener) k

-- whether it has it
not_yet : (single first : Bool) → single ≡ true → (single && not first) ≡ false → first ≡ true
not_yet true true e h = refl
not_yet true false e h = absurd (true≢false h)
not_yet false first e h = absurd (false≢true e)

already : (single first : Bool) → single ≡ true → (single && first) ≡ false → first ≡ false
already true first e h = h
already false first e h = absurd (false≢true e)

module _ (table : Table) (settings : Settings) where
  -- a text inside a frame, by whether it is silent and by its items: ready for an item, behind one, or behind the opening bracket
  abbrev Within : Bool → Opening → List Tree → List Held → List ℕ → Type 0
  Within true o [] hs b = Spells (Slot table settings hs) b
  Within true o (x ∷ xs) hs b = Spells (Ends table settings hs x) b
  Within false o [] hs b = Spells (Opens table settings o hs) b
  Within false o (x ∷ xs) hs b = Spells (Ends table settings (held o xs ∷ hs) x) b

  -- the text of a document whose calls made these frames and these items at the top
  abbrev pub Written : List Held → List Tree → List ℕ → Type 0
  Written [] [] b = Spells (Slot table settings []) b
  Written [] (x ∷ xs) b = Spells (Ends table settings [] x) b
  Written (h ∷ hs) top b = Within (hushed table settings h.opener) h.opener h.items hs b

  -- an item is added
  added : (x : Tree) (hs : List Held) (top : List Tree) (b : List ℕ) → Spells (Ends table settings hs x) b → Written (add (x ∷ []) hs top).frames (add (x ∷ []) hs top).top b
  added x [] top b p = p
  added x (h ∷ hs) top b p = step (hushed table settings h.opener) refl
    where
      step : (q : Bool) → hushed table settings h.opener ≡ q → Within q h.opener (x ∷ h.items) hs b
      step true e = ends_silent table settings h hs x e p
      step false e = p

module _ (table : Table) (laws : Lawful table.starts table.continues table.shown) (settings : Settings) (laid : Laid settings.config) where
  -- where a value can stand, the text with what goes before an element is ready for an item
  ready : (l : Layout) (fs : List Frame) (filled : Bool) (hs : List Held) (top : List Tree) (b : List ℕ) → has_value fs filled ≡ false → AllStand 0 fs hs → top ≡ []
      → Written table settings hs top b → Spells (Slot table settings hs) (b ++ before settings.config l fs)
  ready l [] filled [] top b e a q w = rw append-nil (rw q at w)
  ready l [] filled (h ∷ hs) top b e a q w = absurd a
  ready l (f ∷ fs) filled [] top b e a q w = absurd a
  ready l (f ∷ fs) filled (h ∷ hs) top b e (a, rest) q w = step (hushed table settings h.opener) refl h.items a.elements w
    where
      first : hushed table settings h.opener ≡ true → eqb f.elements 0 ≡ true
      first k = not_yet (single f.kind) (eqb f.elements 0) (lone settings f h a k) e

      step : (silently : Bool) → hushed table settings h.opener ≡ silently → (xs : List Tree) → f.elements ≡ length xs + 0 → Within table settings silently h.opener xs hs b
          → Spells (Slot table settings (held h.opener xs ∷ hs)) (b ++ before settings.config l (f ∷ fs))
      step true k [] m p =
          subst (λ z. Spells (Slot table settings (held h.opener [] ∷ hs)) (b ++ z)) (sym (before_silent settings.config (on settings) l f fs (ap (silent (on settings)) a.kind ∙ k) (first k)))
          (rw append-nil (slot_silent table settings (held h.opener []) hs k p))
      step true k (x ∷ xs) m p = absurd (both_ways (eqb f.elements 0) (some_already f.elements x xs m) (first k))
      step false k [] m p = slot_first table settings h.opener hs k p (before_first settings.config laid l f fs (none_yet f.elements m))
      step false k (x ∷ xs) m p = slot_next table settings h.opener xs x hs k p (before_next settings.config laid l f fs (some_already f.elements x xs m))

  -- a frame that does not lack its value becomes one item, which the text ends with
  ended : (l : Layout) (f : Frame) (h : Held) (hs : List Held) (b : List ℕ) → Stands 0 f h → (single f.kind && eqb f.elements 0) ≡ false
      → Within table settings (hushed table settings h.opener) h.opener h.items hs b
      → (x : Tree) × (result (style_of settings) h ≡ x ∷ []) × Spells (Ends table settings hs x) (b ++ closing_bytes settings l f)
  ended l f h hs b a e w =
      let r = step (hushed table settings h.opener) refl h.items a.elements w in
      (r.0, r.1, subst (λ z. Spells (Ends table settings hs r.0) (b ++ z)) (sym (ap (λ k. cond (silent (on settings) k) [] (closed (bracket k))) a.kind)) r.2)
    where
      closed : Bracket → List ℕ
      closed k = before_closing settings.config l f ++ closing k ∷ []

      step : (silently : Bool) → hushed table settings h.opener ≡ silently → (xs : List Tree) → f.elements ≡ length xs + 0 → Within table settings silently h.opener xs hs b
          → (x : Tree) × (cond silently xs (group_of table settings h.opener (in_order xs ∅) ∷ []) ≡ x ∷ []) × Spells (Ends table settings hs x) (b ++ cond silently [] (closed (bracket (kind_of h.opener))))
      step true k [] m p = absurd (both_ways (eqb f.elements 0) (already (single f.kind) (eqb f.elements 0) (lone settings f h a k) e) (none_yet f.elements m))
      step true k (x ∷ []) m p = (x, refl, rw append-nil p)
      step true k (x ∷ z ∷ xs) m p = absurd (omega (arith, m, a.one (lone settings f h a k)))
      step false k [] m p = (_, refl, close_empty table settings h.opener hs p (closing_none settings.config laid (bracket (kind_of h.opener)) l f (none_yet f.elements m)))
      step false k (x ∷ xs) m p = (_, refl, close_behind table settings h.opener xs x hs k p (closing_behind settings.config laid (bracket (kind_of h.opener)) l f (some_already f.elements x xs m)))

  -- the three calls that write
  pub value_written : (l : Layout) (fs : List Frame) (filled : Bool) (d : ℕ) (hs : List Held) (top : List Tree) (b : List ℕ) (v : Value)
      → has_value fs filled ≡ false → Follows (on settings) fs filled d hs top → BytesFit v → value_refusal table v ≡ None → Written table settings hs top b
      → Written table settings (add (item (style_of settings) hs v ∷ []) hs top).frames (add (item (style_of settings) hs v ∷ []) hs top).top (b ++ (before settings.config l fs ++ value_bytes table settings d v))
  value_written l fs filled d hs top b v e a fit k w =
      added table settings _ hs top _ (rw (a.waits e, ← append_assoc) (put_ends table settings hs _ (ready l fs filled hs top b e a.frames (empty_top fs filled top e a.top) w) (value_back table laws settings hs v fit k)))

  pub opening_written : (l : Layout) (fs : List Frame) (filled : Bool) (d : ℕ) (hs : List Held) (top : List Tree) (b : List ℕ) (o : Opening)
      → has_value fs filled ≡ false → Follows (on settings) fs filled d hs top → opening_refusal table o ≡ None → Written table settings hs top b
      → Written table settings (held o [] ∷ hs) top (b ++ (before settings.config l fs ++ opening_bytes table settings l o))
  opening_written l fs filled d hs top b o e a k w = step (hushed table settings o) refl
    where
      slot : Spells (Slot table settings hs) (b ++ before settings.config l fs)
      slot = ready l fs filled hs top b e a.frames (empty_top fs filled top e a.top) w

      inside : Layout
      inside = entered settings.config (kind_of o) (announced o) l

      bytes : List ℕ
      bytes = head_bytes table (head (names settings) o) ++ brackets.opening (bracket (kind_of o)) ∷ behind_opening settings.config (kind_of o) inside

      step : (silently : Bool) → hushed table settings o ≡ silently → Within table settings silently o [] hs (b ++ (before settings.config l fs ++ cond silently [] bytes))
      step true q = rw append-nil slot
      step false q = rw (← append_assoc b (before settings.config l fs) bytes) (open_opens table settings o hs slot (opening_back table laws (names settings) o _ k (behind_opening_blank settings.config laid (kind_of o) inside)))

  pub end_written : (l : Layout) (f : Frame) (fs : List Frame) (filled : Bool) (d : ℕ) (h : Held) (hs : List Held) (top : List Tree) (b : List ℕ)
      → lacks_value (f ∷ fs) ≡ false → Follows (on settings) (f ∷ fs) filled d (h ∷ hs) top → Written table settings (h ∷ hs) top b
      → Written table settings (add (result (style_of settings) h) hs top).frames (add (result (style_of settings) h) hs top).top (b ++ closing_bytes settings l f)
  end_written l f fs filled d h hs top b e a w =
      let r = ended l f h hs b a.frames.0 e w in
      subst (λ xs. Written table settings (add xs hs top).frames (add xs hs top).top (b ++ closing_bytes settings l f)) (sym r.1) (added table settings r.0 hs top _ r.2)
