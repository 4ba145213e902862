-- No text has two readings.
-- Assumes nothing.
use Rattle.std.proofs.Common.{◌≡◌, ℕ, suc, Bool, true, false, List, [], ◌∷◌, sym, refl, ap, ◌∙◌, subst, ap₂}
use Rattle.std.proofs.lemmas.Bool.{both_ways, or_parts}
use Rattle.chars.specs.Blanks.{among, blank}
use Rattle.chars.specs.Tables.{Lawful}
use Rattle.chars.specs.Utf8.{encodes}
use Rattle.words.specs.RawText.{hash}
use Rattle.grammar.specs.Trees.{Tree, a_word, a_number, a_name, a_text, a_byte_string, a_character, a_list, a_group, headless, named, some_head, Trees, ◌&◌}
use Rattle.grammar.specs.Tokens.{begins, Blanks, Way, Name, plain_name, raw_name}
use Rattle.grammar.specs.Strings.{Fenced}
use Rattle.grammar.specs.Items.{Bracket, square, round, closing, Rule, Item, is_word, is_number, is_name, is_text, is_raw_text, is_bytes, is_raw_bytes, is_character, is_list, is_group, is_headed, is_some, Items, no_items, some_items, More, no_more, comma}
use Rattle.grammar.specs.Readings.{Reading, NoTextHasTwoReadings}
use Rattle.grammar.proofs.Behind.{closers, after, after_more, after_nothing}
use Rattle.grammar.proofs.Headers.{headers_once}
use Rattle.grammar.proofs.Looking.{look, item_look, stopping, item_begins, solid}
use Rattle.grammar.proofs.Runs.{tail_is, clash, run_once, skip, skips, skip_once}
use Rattle.grammar.proofs.Strings.{Same, is, text_once, bytes_once, character_once, fenced_once, hashes_once}

-- raw strings with as many hashes
raw_once : (n n' : ℕ) {s x r s' x' r' : List ℕ} → Fenced (suc n) s x r → Fenced (suc n') s' x' r' → (n ≡ n') × (s ≡ s') → Same x r x' r'
raw_once n n' {s' = s'} {x' = x'} {r' = r'} h h' q = fenced_once h (subst (λ k. Fenced (suc k) s' x' r') (sym q.0) h') q.1

closing_solid : (b : Bracket) → blank (closing b) ≡ false
closing_solid square = refl
closing_solid round = refl

closing_no_comma : (b : Bracket) → is 0x2C (closing b) ≡ false
closing_no_comma square = refl
closing_no_comma round = refl

module _ {starts continues shown : ℕ → Bool} (laws : Lawful starts continues shown) where
  name_once : {w : Way} {s x r s' x' r' : List ℕ} → Name starts continues w s x r → Name starts continues w s' x' r' → s ≡ s' → Same x r x' r'
  name_once (plain_name h n) (plain_name h' n') q = run_once h h' q
  name_once (raw_name e h) (raw_name e' h') q = run_once h h' (tail_is (tail_is (sym e ∙ q ∙ e')))

  -- a closing bracket begins no item
  no_item : (b : Bracket) {k : Rule} {s r u : List ℕ} {t : Tree} → Item starts continues k s t r → s ≡ closing b ∷ u → ⊥
  no_item square i e = both_ways _ (item_begins laws i) (ap (begins (stopping laws)) e)
  no_item round i e = both_ways _ (item_begins laws i) (ap (begins (stopping laws)) e)

  -- two items from one text, with what may follow an item behind each, are of one rule
  one_rule : {k k' : Rule} {s r s' r' : List ℕ} {t t' : Tree} → Item starts continues k s t r → Item starts continues k' s' t' r' → after r ≡ true → after r' ≡ true → s ≡ s' → k' ≡ k
  one_rule i i' a a' q = sym (item_look laws i' a') ∙ ap (look laws) (sym q) ∙ item_look laws i a

  mutual
    item_once : {k : Rule} {s r s' r' : List ℕ} {t t' : Tree} → Item starts continues k s t r → Item starts continues k s' t' r' → s ≡ s' → (t ≡ t') × (r ≡ r')
    item_once (is_word h n m) (is_word h' n' m') q = let p = run_once h h' q in (ap a_word p.0, p.1)
    item_once (is_number h) (is_number h') q = let p = run_once h h' q in (ap a_number p.0, p.1)
    item_once (is_name h) (is_name h') q = let p = name_once h h' q in (ap a_name p.0, p.1)
    item_once (is_text e h) (is_text e' h') q = let p = text_once h h' (tail_is (sym e ∙ q ∙ e')) in (ap a_text p.0, p.1)
    item_once (is_raw_text n e h) (is_raw_text n' e' h') q =
        let p = raw_once n n' h h' (hashes_once n n' _ _ (tail_is (tail_is (sym e ∙ q ∙ e')))) in (ap a_text p.0, p.1)
    item_once (is_bytes e h) (is_bytes e' h') q = let p = bytes_once h h' (tail_is (tail_is (sym e ∙ q ∙ e'))) in (ap a_byte_string p.0, p.1)
    item_once (is_raw_bytes n e h) (is_raw_bytes n' e' h') q =
        let p = raw_once n n' h h' (hashes_once n n' _ _ (tail_is (tail_is (tail_is (sym e ∙ q ∙ e'))))) in (ap (λ x. a_byte_string (encodes x)) p.0, p.1)
    item_once (is_character h) (is_character h') q = let p = character_once h h' q in (ap a_character p.0, p.1)
    item_once (is_list e i) (is_list e' i') q = let p = items_once i i' (tail_is (sym e ∙ q ∙ e')) in (ap a_list p.0, p.1)
    item_once (is_group e i) (is_group e' i') q = let p = items_once i i' (tail_is (sym e ∙ q ∙ e')) in (ap (a_group headless) p.0, p.1)
    item_once (is_headed h b i) (is_headed h' b' i') q =
        let u = name_once h h' q in
        let p = items_once i i' (tail_is (skip_once b b' refl refl u.1)) in
        (ap₂ (λ x ts. a_group (named x) ts) u.0 p.0, p.1)
    item_once (is_some e b i) (is_some e' b' i') q =
        let u = tail_is (tail_is (tail_is (tail_is (sym e ∙ q ∙ e')))) in
        let p = items_once i i' (tail_is (skip_once b b' refl refl u)) in
        (ap (a_group some_head) p.0, p.1)

    items_once : {b : Bracket} {s r s' r' : List ℕ} {ts ts' : Trees} → Items starts continues b s ts r → Items starts continues b s' ts' r' → s ≡ s' → (ts ≡ ts') × (r ≡ r')
    items_once {b} (no_items k) (no_items k') q = (refl, tail_is (skip_once k k' (closing_solid b) (closing_solid b) q))
    items_once {b} (no_items k) (some_items k' i' m') q = absurd (no_item b i' (skip_once k' k (solid laws i') (closing_solid b) (sym q)))
    items_once {b} (some_items k i m) (no_items k') q = absurd (no_item b i (skip_once k k' (solid laws i) (closing_solid b) q))
    items_once (some_items k i m) (some_items {s₁ = s₁'} {s₂ = s₂'} {t = t'} k' i' m') q =
        let here = skip_once k k' (solid laws i) (solid laws i') q in
        let rule = one_rule i i' (after_more m) (after_more m') here in
        let u = item_once i (subst (λ z. Item starts continues z s₁' t' s₂') rule i') here in
        let p = more_once m m' u.1 in
        (ap₂ ◌&◌ u.0 p.0, p.1)

    more_once : {b : Bracket} {s r s' r' : List ℕ} {ts ts' : Trees} → More starts continues b s ts r → More starts continues b s' ts' r' → s ≡ s' → (ts ≡ ts') × (r ≡ r')
    more_once {b} (no_more k) (no_more k') q = (refl, tail_is (skip_once k k' (closing_solid b) (closing_solid b) q))
    more_once {b} (no_more k) (comma k' i') q = absurd (clash (is 0x2C) (sym (skip_once k k' (closing_solid b) refl q)) refl (closing_no_comma b))
    more_once {b} (comma k i) (no_more k') q = absurd (clash (is 0x2C) (skip_once k k' refl (closing_solid b) q) refl (closing_no_comma b))
    more_once (comma k i) (comma k' i') q = items_once i i' (tail_is (skip_once k k' refl refl q))

  -- where an item stands behind blanks no header stands
  pub no_hash : {k : Rule} {s u r : List ℕ} {t : Tree} → Blanks s u → Item starts continues k u t r → begins (is hash) (skip s) ≡ false
  no_hash {s = s} {u = u} b i = ap (begins (is hash)) (skips b (solid laws i)) ∙ step u (item_begins laws i)
    where
      step : (u : List ℕ) → begins (stopping laws) u ≡ false → begins (is hash) u ≡ false
      step [] h = refl
      step (c ∷ u) h = (or_parts _ _ (or_parts (among (0x23 ∷ closers) c) (blank c) h).0).0

  reading_once : {s : List ℕ} {t t' : Tree} → Reading starts continues s t → Reading starts continues s t' → t ≡ t'
  reading_once {t' = t'} a b =
      let behind = headers_once a.headers b.headers (no_hash a.before a.item) (no_hash b.before b.item) refl in
      let here = skip_once a.before b.before (solid laws a.item) (solid laws b.item) behind in
      let rule = one_rule a.item b.item (after_nothing a.after) (after_nothing b.after) here in
      (item_once a.item (subst (λ z. Item starts continues z b.from t' b.upto) rule b.item) here).0

  pub unique : NoTextHasTwoReadings starts continues
  unique text t t' a b = reading_once a.reading b.reading
