-- Texts with what they read as, and texts that read as nothing.
-- Assumes nothing.
use Rattle.std.proofs.Common.{◌≡◌, ℕ, Bool, true, false, List, [], ◌∷◌, ◌++◌, is_some as option_is_some, codes, unwrap_or, sym, refl, ap, ◌∙◌, subst, arith, lit<}
use mathlib.Core.List.{append_cancel_left}
use Rattle.std.proofs.lemmas.Bool.{both_ways}
use Rattle.chars.specs.Blanks.{blank}
use Rattle.chars.specs.Tables.{Lawful}
use Rattle.chars.specs.Utf8.{scalars, encode, encodes, decoded}
use Rattle.chars.proofs.Decoding.{decode_encodes}
use Rattle.words.specs.Classes.{all, raw_char}
use Rattle.words.specs.RawText.{hash}
use Rattle.grammar.specs.Trees.{Tree, Trees}
use Rattle.grammar.specs.Tokens.{begins, Run, Blanks, plain_name, raw_name, number_first, number_char}
use Rattle.grammar.specs.Strings.{text_bare, text_short, text_code, byte_bare, byte_pair, quoted_end, quoted_part, char_escape, fenced_end, fenced_char}
use Rattle.grammar.specs.Items.{round, Rule, number_rule, group_rule, some_rule, Item, is_word, is_number, is_name, is_text, is_raw_text, is_bytes, is_raw_bytes, is_character, is_list, is_group, is_headed, is_some, Items, no_items, some_items, no_more, comma}
use Rattle.grammar.specs.Readings.{Extension, unwrap_newtypes, implicit_some, explicit_struct_names, extension_name, Headers, no_headers, one_header, Reading, Reads}
use Rattle.grammar.specs.Worked.{WorkedReadings}
use Rattle.grammar.proofs.Behind.{after_nothing}
use Rattle.grammar.proofs.Headers.{headers_none, name_first}
use Rattle.grammar.proofs.Looking.{look, word_look, number_look, item_look, stopping, item_begins, solid}
use Rattle.grammar.proofs.Runs.{tail_is, clash, run_drops, skip, skips}
use Rattle.grammar.proofs.Strings.{is}
use Rattle.grammar.proofs.Tables.{ascii_word}
use Rattle.grammar.proofs.Unique.{no_hash}

-- these blanks, and then r
to : (g r : List ℕ) → all blank g ≡ true → Blanks (g ++ r) r
to g r h = record { skipped = g; split = refl; only = h }

at : (r : List ℕ) → Blanks r r
at r = to [] r refl

sp : (r : List ℕ) → Blanks (codes " " ++ r) r
sp r = to (codes " ") r refl

never : {c : ℕ} {x : List ℕ} → c ∷ x ≡ [] → ⊥
never e = let z : ◌≡◌ {A = ℕ} 0 1 = cc in omega arith

no_x : (e : Extension) (u : List ℕ) → begins (is 0x78) (extension_name e ++ u) ≡ false
no_x unwrap_newtypes u = refl
no_x implicit_some u = refl
no_x explicit_struct_names u = refl

-- the bytes of characters read as the characters do
decodes : (cs : List ℕ) → scalars cs ≡ true → decoded (encodes cs) ≡ cs
decodes cs h = ap (λ o. unwrap_or o []) (decode_encodes cs h)

module _ {starts continues : ℕ → Bool} (cs : List ℕ) (h : scalars cs ≡ true) where
  pub read : {t : Tree} → Reading starts continues cs t → Reads starts continues (encodes cs) t
  read {t} k = record { valid = ap option_is_some (decode_encodes cs h); reading = subst (λ z. Reading starts continues z t) (sym (decodes cs h)) k }

  unread : ((t : Tree) → Reading starts continues cs t → ⊥) → (t : Tree) → Reads starts continues (encodes cs) t → ⊥
  unread f t k = f t (subst (λ z. Reading starts continues z t) (decodes cs h) k.reading)

module _ {starts continues shown : ℕ → Bool} (laws : Lawful starts continues shown) where
  whole : {k : Rule} {s : List ℕ} {t : Tree} → Item starts continues k s t [] → Reading starts continues s t
  whole {k} {s} i = record { rule = k; behind_headers = s; from = s; upto = []; headers = no_headers refl; before = at s; item = i; after = at [] }

  number : (x r : List ℕ) → begins number_first x ≡ true → all number_char x ≡ true → begins number_char r ≡ false → Run number_first number_char (x ++ r) x r
  number x r b a l = record { split = refl; begun = b; only = a; longest = l }

  raw_true : Run (raw_char continues) (raw_char continues) (codes "true") (codes "true") []
  raw_true = record {
    split = refl;
    begun = rw (laws.ascii_continues 0x74 (lit< tt));
    only = rw (laws.ascii_continues 0x74 (lit< tt), laws.ascii_continues 0x72 (lit< tt), laws.ascii_continues 0x75 (lit< tt), laws.ascii_continues 0x65 (lit< tt));
    longest = refl;
  }

  -- a text that does not begin with a hash is an item of the rule that its first characters tell
  only_item : (s : List ℕ) (k : Rule) (t : Tree) → begins (is hash) (skip s) ≡ false → look laws (skip s) ≡ k → Reading starts continues s t → (r : List ℕ) × Item starts continues k (skip s) t r × Blanks r []
  only_item s k t n l h =
      let here : h.from ≡ skip s = sym (skips h.before (solid laws h.item)) ∙ ap skip (sym (headers_none h.headers n)) in
      let rule : h.rule ≡ k = sym (item_look laws h.item (after_nothing h.after)) ∙ ap (look laws) here ∙ l in
      let i = subst (λ z. Item starts continues z h.from t h.upto) rule h.item in
      (h.upto, subst (λ z. Item starts continues k z t h.upto) here i, h.after)

  no_two_items : {t : Tree} (r : List ℕ) → Item starts continues number_rule (codes "1 2") t r → Blanks r [] → ⊥
  no_two_items r (is_number h) b = never (ap skip (run_drops h) ∙ skips b refl)

  no_lone_comma : {s r : List ℕ} {ts : Trees} → Items starts continues round s ts r → codes ",)" ≡ s → ⊥
  no_lone_comma (no_items k) e = clash (is 0x2C) (ap skip e ∙ skips k refl) refl refl
  no_lone_comma (some_items k i m) e = both_ways _ (item_begins laws i) (ap (begins (stopping laws)) (sym (ap skip e ∙ skips k (solid laws i))))

  no_lone_comma_item : {t : Tree} (r : List ℕ) → Item starts continues group_rule (codes "(,)") t r → Blanks r [] → ⊥
  no_lone_comma_item r (is_group e i) b = no_lone_comma i (tail_is e)

  no_lone_some : {t : Tree} (r : List ℕ) → Item starts continues some_rule (codes "Some") t r → Blanks r [] → ⊥
  no_lone_some r (is_some {s₁ = s₁} e k i) b = never (sym (skips k refl) ∙ sym (ap skip (append_cancel_left (codes "Some") [] s₁ e)))

  no_unknown_header : {s r : List ℕ} → Headers s r → codes "#![enable(x)]1" ≡ s → begins (is hash) (skip r) ≡ false → ⊥
  no_unknown_header (no_headers e) q n = both_ways _ n (ap (λ z. begins (is hash) (skip z)) (sym (q ∙ e)))
  no_unknown_header (one_header x {s = s} {s' = r} k h) q n =
      name_first x (codes "x") [] s (codes "#![enable(x)]1") r (codes ")]1") refl k
      (_, at _, (_, at _, (_, at _, (_, at _, (_, at _, (_, at _, refl)))))) (sym q)
      (λ u u' p. both_ways (begins (is 0x78) (extension_name x ++ u)) (no_x x u) (ap (begins (is 0x78)) p))

  pub worked : WorkedReadings starts continues
  unfolding encode
  worked = record {
    longer_word = read (codes "trueish") refl (whole (is_name (plain_name (ascii_word laws (codes "trueish") [] refl refl refl) refl)));
    raw_name = read (codes "r#true") refl (whole (is_name (raw_name refl raw_true)));
    raw_text = read (codes "r#\"a\"b\"#") refl (whole (is_raw_text 0 refl (fenced_char refl refl (fenced_char refl refl (fenced_char refl refl (fenced_end refl))))));
    escaped_text = read (codes "\"\\u{1F52a}\\n'\"") refl (whole (is_text refl (quoted_part (text_code (codes "1F52a") refl refl refl refl) (quoted_part (text_short refl refl) (quoted_part (text_bare refl refl) (quoted_end refl))))));
    quote_character = read (codes "'\\''") refl (whole (is_character (char_escape refl refl)));
    byte_string = read (codes "b\"\\x00é\"") refl (whole (is_bytes refl (quoted_part (byte_pair refl refl refl) (quoted_part (byte_bare refl refl) (quoted_end refl)))));
    raw_byte_string = read (codes "br#\"\\é\"#") refl (whole (is_raw_bytes 0 refl (fenced_char refl refl (fenced_char refl refl (fenced_end refl)))));
    nested = read (codes "a(-1, [ true, ] )") refl (whole (is_headed (plain_name (ascii_word laws (codes "a") _ refl refl (laws.ascii_continues 0x28 (lit< tt))) refl) (at _)
        (some_items (at _) (is_number (number (codes "-1") _ refl refl refl))
        (comma (at _) (some_items (sp _)
        (is_list refl (some_items (sp _) (is_word (ascii_word laws (codes "true") _ refl refl (laws.ascii_continues 0x2C (lit< tt))) refl refl) (comma (at _) (no_items (sp _)))))
        (no_more (sp _)))))));
    some_group = read (codes "Some(1,2)") refl (whole (is_some refl (at _) (some_items (at _) (is_number (number (codes "1") _ refl refl refl))
        (comma (at _) (some_items (at _) (is_number (number (codes "2") _ refl refl refl)) (no_more (at _)))))));
    two_headers = read (codes "#![enable(implicit_some)]\n# ! [enable( unwrap_newtypes )] ()") refl record {
      rule = group_rule;
      behind_headers = codes " ()";
      from = codes "()";
      upto = [];
      headers =
          one_header implicit_some (_, at _, (_, at _, (_, at _, (_, at _, (_, at _, (_, at _, (_, at _, (_, at _, refl))))))))
          (one_header unwrap_newtypes (_, to (codes "\n") _ refl, (_, sp _, (_, sp _, (_, at _, (_, at _, (_, sp _, (_, sp _, (_, at _, refl)))))))) (no_headers refl));
      before = sp _;
      item = is_group refl (no_items (at _));
      after = at [];
    };
    unknown_header = unread (codes "#![enable(x)]1") refl (λ t h. no_unknown_header h.headers refl (no_hash laws h.before h.item));
    two_items = unread (codes "1 2") refl (λ t h. let i = only_item (codes "1 2") number_rule t refl (number_look laws (codes "1 2") refl) h in no_two_items i.0 i.1 i.2);
    lone_comma = unread (codes "(,)") refl (λ t h. let i = only_item (codes "(,)") group_rule t refl (rw (laws.ascii_starts 0x28 (lit< tt))) h in no_lone_comma_item i.0 i.1 i.2);
    lone_some = unread (codes "Some") refl (λ t h. let i = only_item (codes "Some") some_rule t refl (word_look laws (ascii_word laws (codes "Some") [] refl refl refl) refl) h in no_lone_some i.0 i.1 i.2);
  }
