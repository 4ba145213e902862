-- What is written for a value reads as its item, and what is written before a bracket as the head of its group.
use Rattle.std.proofs.Common.{◌≡◌, ℕ, zero, suc, Bool, true, false, cond, List, [], ◌∷◌, ◌++◌, None, codes, sym, refl, ap, subst}
use Rattle.std.proofs.lemmas.Bool.{cond_both}
use Rattle.chars.specs.Tables.{Lawful}
use Rattle.chars.specs.Utf8.{decoded}
use Rattle.words.specs.Classes.{all}
use Rattle.words.specs.Names.{identifier}
use Rattle.words.specs.Refusals.{name_refusal}
use Rattle.grammar.specs.Tokens.{Blanks}
use Rattle.grammar.specs.Trees.{Tree, Head, headless, named, some_head, a_word, a_name, a_text, a_byte_string, Trees}
use Rattle.grammar.specs.Items.{Bracket, square, round, Rule, group_rule, list_rule, some_rule, headed_rule, Item, is_list, is_group, is_headed, is_some, Items, no_items, some_items, no_more}
use Rattle.grammar.specs.Items as brackets
use Rattle.grammar.specs.ReadBack.{Spells, ReadsBack, ReadsBackAsName, suffix_char, ends_token}
use Rattle.grammar.proofs.Accepted.{neither}
use Rattle.grammar.proofs.ReadBack.{literals_back}
use Rattle.grammar.proofs.Spelling.{ascii, spells_as, spells_ascii, spells_then, spells_both}
use Rattle.model.specs.Settings.{Settings, on, names, suffixed, escaped}
use Rattle.model.specs.Requests.{IntegerType, i8, i16, i32, i64, u8, u16, u32, u64, type_suffix, Value, none, a_bool, an_integer, a_float, a_char, a_str, bytes, unit, unit_struct, unit_variant, BytesFit, Opening, some, newtype_struct, newtype_variant, seq, tuple, tuple_struct, tuple_variant, kind_of}
use Rattle.model.specs.States.{Table}
use Rattle.model.specs.Heads.{bracket, head, head_bytes, if_named}
use Rattle.model.specs.Layouts.{repeated}
use Rattle.model.specs.Spellings.{value_bytes}
use Rattle.model.specs.Places.{value_refusal, opening_refusal}
use Rattle.model.specs.Making.{Held, silent_somes, in_somes, item, grouped, unit_tree}
use Rattle.model.specs.Runs.{style_of}
use Rattle.model.proofs.Blanks.{Blank, no_blanks, blank_items}

suffix_fits : (type : IntegerType) → all suffix_char (type_suffix type) ≡ true
suffix_fits i8 = refl
suffix_fits i16 = refl
suffix_fits i32 = refl
suffix_fits i64 = refl
suffix_fits u8 = refl
suffix_fits u16 = refl
suffix_fits u32 = refl
suffix_fits u64 = refl

-- ASCII as often as n says spells itself
repeated_spells : (n : ℕ) (x : List ℕ) → all ascii x ≡ true → Spells (λ s r. s ≡ repeated n x ++ r) (repeated n x)
repeated_spells zero x h = spells_ascii [] refl
repeated_spells (suc n) x h = spells_both x (repeated n x) (spells_ascii x h) (repeated_spells n x h)

-- closing brackets: one more in front is one more behind, and they end a token
one_more : (n : ℕ) (r : List ℕ) → repeated n (codes ")") ++ 0x29 ∷ r ≡ 0x29 ∷ (repeated n (codes ")") ++ r)
one_more zero r = refl
one_more (suc n) r = ap (λ z. 0x29 ∷ z) (one_more n r)

closing_ends : (n : ℕ) (r : List ℕ) → ends_token r ≡ true → ends_token (repeated n (codes ")") ++ r) ≡ true
closing_ends zero r h = h
closing_ends (suc n) r h = refl

-- the bytes of an opening bracket, its head and the blanks behind it, before items and a closing bracket
abbrev pub Opened : (starts continues : ℕ → Bool) → Bracket → Head → List ℕ → List ℕ → Type 0
Opened starts continues b h s r = (ts : Trees) (r' : List ℕ) → Items starts continues b r ts r' → (k : Rule) × Item starts continues k s (grouped b h ts) r'

-- one character, and then blanks
then_blank : (c : ℕ) (x : List ℕ) → all ascii (c ∷ []) ≡ true → Blank x → Spells (λ s r. (u : List ℕ) × (s ≡ c ∷ u) × Blanks u r) (c ∷ x)
then_blank c x h k = spells_then (spells_ascii (c ∷ []) h) k (λ s s' r e b. (s', e, b))

module _ {starts continues : ℕ → Bool} where
  unit_back : ReadsBack starts continues (codes "()") unit_tree
  unit_back = spells_as (spells_ascii (codes "()") refl) (λ s r e h. (group_rule, is_group e (no_items (no_blanks (0x29 ∷ r)))))

  in_somes_item : (n : ℕ) (t : Tree) (k : Rule) (s r : List ℕ) → Item starts continues k s t (repeated n (codes ")") ++ r)
      → (k' : Rule) × Item starts continues k' (repeated n (codes "Some(") ++ s) (in_somes n t) r
  in_somes_item zero t k s r i = (k, i)
  in_somes_item (suc n) t k s r i =
      let inner = in_somes_item n t k s (0x29 ∷ r) (subst (λ z. Item starts continues k s t z) (sym (one_more n r)) i) in
      (some_rule, is_some refl (no_blanks _) (some_items (no_blanks _) inner.1 (no_more (no_blanks (0x29 ∷ r)))))

  in_somes_back : (n : ℕ) (x : List ℕ) (t : Tree) → ReadsBack starts continues x t → ReadsBack starts continues (repeated n (codes "Some(") ++ (x ++ repeated n (codes ")"))) (in_somes n t)
  in_somes_back n x t h =
      spells_then (repeated_spells n (codes "Some(") refl) (spells_then h (repeated_spells n (codes ")") refl) inner) outer
    where
      inner : (s s' r : List ℕ) → (ends_token s' ≡ true → (k : Rule) × Item starts continues k s t s') → s' ≡ repeated n (codes ")") ++ r → ends_token r ≡ true → (k : Rule) × Item starts continues k s t (repeated n (codes ")") ++ r)
      inner s s' r i e h = let j = i (rw e (closing_ends n r h)) in (j.0, subst (λ z. Item starts continues j.0 s t z) e j.1)

      outer : (s s' r : List ℕ) → s ≡ repeated n (codes "Some(") ++ s' → (ends_token r ≡ true → (k : Rule) × Item starts continues k s' t (repeated n (codes ")") ++ r)) → ends_token r ≡ true → (k : Rule) × Item starts continues k s (in_somes n t) r
      outer s s' r e i h = let j = i h in rw e (in_somes_item n t j.0 s' r j.1)

  -- the four forms of an opening
  list_opens : (x : List ℕ) → Blank x → Spells (Opened starts continues square headless) (0x5B ∷ x)
  list_opens x h = spells_as (then_blank 0x5B x refl h) (λ s r e ts r' is. (list_rule, is_list e.1 (blank_items e.2 is)))

  group_opens : (x : List ℕ) → Blank x → Spells (Opened starts continues round headless) (0x28 ∷ x)
  group_opens x h = spells_as (then_blank 0x28 x refl h) (λ s r e ts r' is. (group_rule, is_group e.1 (blank_items e.2 is)))

  some_opens : (x : List ℕ) → Blank x → Spells (Opened starts continues round some_head) (codes "Some" ++ 0x28 ∷ x)
  some_opens x h =
      spells_then (spells_ascii (codes "Some") refl) (then_blank 0x28 x refl h)
      (λ s s' r w e ts r' is. (some_rule, is_some w (record { skipped = []; split = e.1; only = refl }) (blank_items e.2 is)))

  named_opens : (y x : List ℕ) (cs : List ℕ) → ReadsBackAsName starts continues y cs → Blank x → Spells (Opened starts continues round (named cs)) (y ++ 0x28 ∷ x)
  named_opens y x cs n h =
      spells_then n (then_blank 0x28 x refl h)
      (λ s s' r w e ts r' is. let m = w (ap ends_token e.1) in (headed_rule m.0, is_headed m.1 (record { skipped = []; split = e.1; only = refl }) (blank_items e.2 is)))

module _ (t : Table) (laws : Lawful t.starts t.continues t.shown) where
  -- a name, or `()` where names are off
  struct_back : (b : Bool) (name : List ℕ) → name_refusal t.continues name ≡ None
      → ReadsBack t.starts t.continues (cond b (identifier t.starts t.continues (decoded name)) (codes "()")) (cond b (a_name (decoded name)) unit_tree)
  struct_back true name h = (literals_back laws).name_items name h
  struct_back false name h = unit_back

  pub value_back : (s : Settings) (hs : List Held) (v : Value) → BytesFit v → value_refusal t v ≡ None
      → ReadsBack t.starts t.continues (value_bytes t s (silent_somes (on s) hs) v) (item (style_of s) hs v)
  value_back s hs none f h = in_somes_back (silent_somes (on s) hs) (codes "None") (a_word (codes "None")) ((literals_back laws).words (codes "None") refl refl)
  value_back s hs (a_bool true) f h = (literals_back laws).words (codes "true") refl refl
  value_back s hs (a_bool false) f h = (literals_back laws).words (codes "false") refl refl
  value_back s hs (an_integer type n) f h = (literals_back laws).integers n (suffixed s.config) (type_suffix type) (suffix_fits type)
  value_back s hs (a_float width x) f h = (literals_back laws).floats x (suffixed s.config) width h
  value_back s hs (a_char c) f h = (literals_back laws).characters c h
  value_back s hs (a_str x) f h =
      cond_both (escaped s.config) _ _ (λ z. ReadsBack t.starts t.continues z (a_text (decoded x)))
      (λ _. (literals_back laws).escaped_texts x h) (λ _. (literals_back laws).plain_texts x h)
  value_back s hs (bytes x) f h =
      cond_both (escaped s.config) _ _ (λ z. ReadsBack t.starts t.continues z (a_byte_string x))
      (λ _. (literals_back laws).escaped_byte_strings x f h) (λ _. (literals_back laws).plain_byte_strings x f h)
  value_back s hs unit f h = unit_back
  value_back s hs (unit_struct name) f h = struct_back (names s) name h
  value_back s hs (unit_variant name variant) f h = (literals_back laws).name_items variant (neither _ _ h).1

  struct_opens : (b : Bool) (name x : List ℕ) → name_refusal t.continues name ≡ None → Blank x
      → Spells (Opened t.starts t.continues round (if_named b name)) (head_bytes t (if_named b name) ++ 0x28 ∷ x)
  struct_opens true name x h k = named_opens _ x (decoded name) ((literals_back laws).names name h) k
  struct_opens false name x h k = group_opens x k

  pub opening_back : (b : Bool) (o : Opening) (x : List ℕ) → opening_refusal t o ≡ None → Blank x
      → Spells (Opened t.starts t.continues (bracket (kind_of o)) (head b o)) (head_bytes t (head b o) ++ brackets.opening (bracket (kind_of o)) ∷ x)
  opening_back b some x h k = some_opens x k
  opening_back b (newtype_struct name) x h k = struct_opens b name x h k
  opening_back b (newtype_variant name variant) x h k = named_opens _ x (decoded variant) ((literals_back laws).names variant (neither _ _ h).1) k
  opening_back b (seq len) x h k = list_opens x k
  opening_back b (tuple len) x h k = group_opens x k
  opening_back b (tuple_struct name len) x h k = struct_opens b name x h k
  opening_back b (tuple_variant name variant len) x h k = named_opens _ x (decoded variant) ((literals_back laws).names variant (neither _ _ h).1) k
