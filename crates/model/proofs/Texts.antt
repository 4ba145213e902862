-- What every way to complete a text makes of it: the text so far is ready for an item, ends with one, or ends with an opening bracket.
-- Each piece that is appended leads from one of these to another.
use Rattle.std.proofs.Common.{◌≡◌, ℕ, Bool, true, false, List, [], ◌∷◌, ◌++◌, refl, subst}
use Rattle.std.proofs.lemmas.Bool.{and_parts, or_left}
use Rattle.chars.specs.Blanks.{blank}
use Rattle.words.specs.Classes.{all}
use Rattle.grammar.specs.Tokens.{Blanks}
use Rattle.grammar.specs.Trees.{Tree, Trees, ∅, ◌&◌}
use Rattle.grammar.specs.Items.{Bracket, square, round, closing, Rule, Item, Items, some_items, More, no_more, comma}
use Rattle.grammar.specs.Readings.{Headers, Reading}
use Rattle.grammar.specs.ReadBack.{Spells, ReadsBack, ends_token}
use Rattle.grammar.proofs.Spelling.{spells_as, spells_then}
use Rattle.model.specs.Settings.{Settings, on, names}
use Rattle.model.specs.Requests.{Opening, kind_of}
use Rattle.model.specs.States.{Table}
use Rattle.model.specs.Heads.{silent, bracket, head}
use Rattle.model.specs.Making.{Held, in_order, grouped}
use Rattle.model.proofs.Blanks.{Blank, Comma}
use Rattle.model.proofs.Pieces.{Opened}

-- what stands behind blanks, or the first of them, ends a token
ends_behind : {s r : List ℕ} → Blanks s r → ends_token r ≡ true → ends_token s ≡ true
ends_behind {s} {r} b h = rw b.split (step b.skipped b.only)
  where
    step : (g : List ℕ) → all blank g ≡ true → ends_token (g ++ r) ≡ true
    step [] k = h
    step (c ∷ g) k = or_left (blank c) _ (and_parts (blank c) (all blank g) k).0

closing_ends : (b : Bracket) (r : List ℕ) → ends_token (closing b ∷ r) ≡ true
closing_ends square r = refl
closing_ends round r = refl

-- an open frame
abbrev pub held : Opening → List Tree → Held
held o ts = record { opener = o; items = ts }

-- one of two types
abbrev either : Bool → Type 0 → Type 0 → Type 0
either true A B = A
either false A B = B

either_way : (b : Bool) (A B : Type 0) {C : Type 0} → (A → C) → (B → C) → either b A B → C
either_way true A B f g c = f c
either_way false A B f g c = g c

module _ (table : Table) (settings : Settings) where
  more_ends : {b : Bracket} {s r : List ℕ} {ts : Trees} → More table.starts table.continues b s ts r → ends_token s ≡ true
  more_ends {b} (no_more {r = r} k) = ends_behind k (closing_ends b r)
  more_ends (comma k i) = ends_behind k refl

  -- the frame that a call opens is silent
  abbrev pub hushed : Opening → Bool
  hushed o = silent (on settings) (kind_of o)

  -- the group of a frame with these items
  abbrev pub group_of : Opening → Trees → Tree
  group_of o ts = grouped (bracket (kind_of o)) (head (names settings) o) ts

  -- behind the item t, which stands in the open frames hs, the text u completes the whole tree v
  abbrev Completes : List Held → Tree → List ℕ → Tree → Type 0
  Completes [] t u v = Blanks u [] × (t ≡ v)
  Completes (h ∷ hs) t u v =
      either (hushed h.opener) (Completes hs t u v)
      ((ts : Trees) × (r : List ℕ) × More table.starts table.continues (bracket (kind_of h.opener)) u ts r × Completes hs (group_of h.opener (in_order h.items (t & ts))) r v)

  -- of a text s, r is what is still to come: s is ready for an item before r, ends with the item t there, or ends there with the opening bracket of o
  abbrev pub Slot : List Held → List ℕ → List ℕ → Type 0
  Slot hs s r = (k : Rule) (t : Tree) (u : List ℕ) (v : Tree) → Item table.starts table.continues k r t u → Completes hs t u v → Reading table.starts table.continues s v

  abbrev pub Ends : List Held → Tree → List ℕ → List ℕ → Type 0
  Ends hs t s r = (v : Tree) → Completes hs t r v → Reading table.starts table.continues s v

  abbrev pub Opens : Opening → List Held → List ℕ → List ℕ → Type 0
  Opens o hs s r = (ts : Trees) (u : List ℕ) (v : Tree) → Items table.starts table.continues (bracket (kind_of o)) r ts u → Completes hs (group_of o ts) u v → Reading table.starts table.continues s v

  completes_ends : (hs : List Held) (t : Tree) (u : List ℕ) (v : Tree) → Completes hs t u v → ends_token u ≡ true
  completes_ends [] t u v c = ends_behind c.0 refl
  completes_ends (h ∷ hs) t u v c = either_way (hushed h.opener) _ _ (completes_ends hs t u v) (λ d. more_ends d.2) c

  -- a silent frame passes its item on; around an item in another frame stands its group
  through : (h : Held) (hs : List Held) (t : Tree) (u : List ℕ) (v : Tree) → hushed h.opener ≡ true → Completes hs t u v → Completes (h ∷ hs) t u v
  through h hs t u v q c = rw q c

  out : (h : Held) (hs : List Held) (t : Tree) (u : List ℕ) (v : Tree) → hushed h.opener ≡ true → Completes (h ∷ hs) t u v → Completes hs t u v
  out h hs t u v q c = rw q at c

  around : (h : Held) (hs : List Held) (t : Tree) (u : List ℕ) (v : Tree) → hushed h.opener ≡ false → Completes (h ∷ hs) t u v
      → (ts : Trees) × (r : List ℕ) × More table.starts table.continues (bracket (kind_of h.opener)) u ts r × Completes hs (group_of h.opener (in_order h.items (t & ts))) r v
  around h hs t u v q c = rw q at c

  inside : (h : Held) (hs : List Held) (t : Tree) (u : List ℕ) (v : Tree) → hushed h.opener ≡ false
      → ((ts : Trees) × (r : List ℕ) × More table.starts table.continues (bracket (kind_of h.opener)) u ts r × Completes hs (group_of h.opener (in_order h.items (t & ts))) r v)
      → Completes (h ∷ hs) t u v
  inside h hs t u v q c = rw q c

  -- behind the header is a slot
  pub first_slot : {b : List ℕ} → Spells (λ s r. (u : List ℕ) × Headers s u × Blanks u r) b → Spells (Slot []) b
  first_slot p = spells_as p (λ s r h k t u v i c. subst (λ z. Reading table.starts table.continues s z) c.1 (record {
    rule = k;
    behind_headers = h.0;
    from = r;
    upto = u;
    headers = h.1;
    before = h.2;
    item = i;
    after = c.0;
  }))

  -- a value fills a slot
  pub put_ends : (hs : List Held) (t : Tree) {b x : List ℕ} → Spells (Slot hs) b → ReadsBack table.starts table.continues x t → Spells (Ends hs t) (b ++ x)
  put_ends hs t p q = spells_then p q (λ s s' r slot i v c. let j = i (completes_ends hs t r v c) in slot j.0 t r v j.1 c)

  -- an opening fills it too
  pub open_opens : (o : Opening) (hs : List Held) {b x : List ℕ} → Spells (Slot hs) b → Spells (Opened table.starts table.continues (bracket (kind_of o)) (head (names settings) o)) x → Spells (Opens o hs) (b ++ x)
  open_opens o hs p q = spells_then p q (λ s s' r slot f ts u v is c. let j = f ts u is in slot j.0 (group_of o ts) u v j.1 c)

  -- a slot inside a silent frame is one around it, and so is an item
  pub slot_silent : (h : Held) (hs : List Held) {b : List ℕ} → hushed h.opener ≡ true → Spells (Slot hs) b → Spells (Slot (h ∷ hs)) b
  slot_silent h hs q p = spells_as p (λ s r slot k t u v i c. slot k t u v i (out h hs t u v q c))

  pub ends_silent : (h : Held) (hs : List Held) (t : Tree) {b : List ℕ} → hushed h.opener ≡ true → Spells (Ends (h ∷ hs) t) b → Spells (Ends hs t) b
  ends_silent h hs t q p = spells_as p (λ s r ends v c. ends v (through h hs t r v q c))

  -- the slot of the first item, and of each other
  pub slot_first : (o : Opening) (hs : List Held) {b x : List ℕ} → hushed o ≡ false → Spells (Opens o hs) b → Blank x → Spells (Slot (held o [] ∷ hs)) (b ++ x)
  slot_first o hs q p g =
      spells_then p g (λ s s' r opens k κ t u v i c. let d = around (held o []) hs t u v q c in opens (t & d.0) d.1 v (some_items k i d.2) d.3)

  pub slot_next : (o : Opening) (ts : List Tree) (t : Tree) (hs : List Held) {b x : List ℕ} → hushed o ≡ false → Spells (Ends (held o ts ∷ hs) t) b → Comma x
      → Spells (Slot (held o (t ∷ ts) ∷ hs)) (b ++ x)
  slot_next o ts t hs q p g =
      spells_then p g (λ s s' r ends k κ t' u v i c.
      let d = around (held o (t ∷ ts)) hs t' u v q c in
      ends v (inside (held o ts) hs t s' v q (t' & d.0, d.1, comma k.1 (some_items k.2 i d.2), d.3)))

  -- a closing bracket behind no item, and behind items
  pub close_empty : (o : Opening) (hs : List Held) {b x : List ℕ} → Spells (Opens o hs) b → Spells (λ s r. Items table.starts table.continues (bracket (kind_of o)) s ∅ r) x → Spells (Ends hs (group_of o ∅)) (b ++ x)
  close_empty o hs p q = spells_then p q (λ s s' r opens is v c. opens ∅ r v is c)

  pub close_behind : (o : Opening) (ts : List Tree) (t : Tree) (hs : List Held) {b x : List ℕ} → hushed o ≡ false → Spells (Ends (held o ts ∷ hs) t) b
      → Spells (λ s r. More table.starts table.continues (bracket (kind_of o)) s ∅ r) x → Spells (Ends hs (group_of o (in_order (t ∷ ts) ∅))) (b ++ x)
  close_behind o ts t hs q p m = spells_then p m (λ s s' r ends more v c. ends v (inside (held o ts) hs t s' v q (∅, r, more, c)))
