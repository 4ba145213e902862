-- The first characters of a text tell which rule can read it, wherever what may follow an item follows.
-- Assumes nothing.
use Rattle.std.proofs.Common.{◌≡◌, ℕ, zero, suc, Bool, true, false, cond, ◌||◌, eqb, List, [], ◌∷◌, ◌++◌, replicate, codes, refl, ap, ◌∙◌, ap₂, lit<}
use mathlib.Core.List.{tail}
use Rattle.std.proofs.lemmas.Bool.{both_ways, or_from, or_parts}
use Rattle.chars.specs.Blanks.{none_in}
use Rattle.chars.proofs.Apart.{not_in}
use Rattle.chars.specs.Blanks.{among, blank, blanks}
use Rattle.chars.specs.Tables.{Lawful, letter, word}
use Rattle.words.specs.Classes.{all, raw_char}
use Rattle.words.specs.Escapes.{quote}
use Rattle.words.specs.Names.{first_char, same, reserved}
use Rattle.words.specs.RawText.{hash}
use Rattle.grammar.specs.Trees.{Tree}
use Rattle.grammar.specs.Tokens.{begins, Run, Word, Name, plain_name, raw_name, Way, plain, raw, number_first}
use Rattle.grammar.specs.Strings.{char_bare, char_escape}
use Rattle.grammar.specs.Items.{Rule, word_rule, number_rule, text_rule, raw_text_rule, bytes_rule, raw_bytes_rule, character_rule, list_rule, group_rule, some_rule, name_rule, headed_rule, Item, is_word, is_number, is_name, is_text, is_raw_text, is_bytes, is_raw_bytes, is_character, is_list, is_group, is_headed, is_some}
use Rattle.grammar.proofs.Behind.{not_among, closers, after, after_name, after_goes, no_open, over}
use Rattle.grammar.proofs.Runs.{apart, take_while, drop_while, run_takes, run_drops, run_begins, skip, skips}
use Rattle.grammar.proofs.Strings.{is}
use Rattle.grammar.proofs.Tables.{ascii_word, no_closer_next, no_blank_first, no_closer_first, no_number_first}

-- a name before an opening bracket is a head
abbrev named_rule : Way → List ℕ → Rule
named_rule w r = cond (begins (among (0x28 ∷ [])) (skip r)) (headed_rule w) (name_rule w)

module _ {starts continues shown : ℕ → Bool} (laws : Lawful starts continues shown) where
  -- behind `r#`
  abbrev look_raw : List ℕ → Rule
  look_raw s = cond (begins (raw_char continues) s) (named_rule raw (drop_while (raw_char continues) s)) raw_text_rule

  -- at a word x, behind which r stands
  abbrev look_word : List ℕ → List ℕ → Rule
  look_word x r = cond (reserved x) (cond (same x (codes "Some")) some_rule word_rule) (named_rule plain r)

  -- .. or at the r, b or br of a string or a raw name
  abbrev look_run : List ℕ → List ℕ → Rule
  look_run x r = cond (begins (is quote) r) bytes_rule (cond (begins (is hash) r) (cond (begins (is 0x72) x) (look_raw (tail r)) raw_bytes_rule) (look_word x r))

  -- at a character that begins no word
  abbrev look_sign : ℕ → Rule
  look_sign c = cond (eqb c 0x5B) list_rule (cond (eqb c 0x28) group_rule (cond (eqb c quote) text_rule (cond (eqb c 0x27) character_rule number_rule)))

  abbrev pub look : List ℕ → Rule
  look [] = word_rule
  look (c ∷ s) = cond (first_char starts c) (look_run (take_while continues (c ∷ s)) (drop_while continues (c ∷ s))) (look_sign c)

  look_first : (s : List ℕ) → begins (first_char starts) s ≡ true → look s ≡ look_run (take_while continues s) (drop_while continues s)
  look_first [] h = absurd (both_ways false refl h)
  look_first (c ∷ s) h = rw h

  run_look : {s x r : List ℕ} → Word starts continues s x r → look s ≡ look_run x r
  run_look {s} h = look_first s (run_begins h) ∙ ap₂ look_run (run_takes h) (run_drops h)

  pub word_look : {s x r : List ℕ} → Word starts continues s x r → after_name r ≡ true → look s ≡ look_word x r
  word_look {s} {x} {r} h a =
      run_look h ∙ rw (over (is quote) r (λ c. not_in (is quote) blanks c refl) refl a, over (is hash) r (λ c. not_in (is hash) blanks c refl) refl a)

  raw_look : {s x r : List ℕ} → Run (raw_char continues) (raw_char continues) s x r → look_raw s ≡ named_rule raw r
  raw_look h = rw (run_begins h, run_drops h)

  fence_look : (n : ℕ) (s : List ℕ) → look_raw (replicate n hash ++ quote ∷ s) ≡ raw_text_rule
  fence_look zero s = rw (laws.ascii_continues 0x22 (lit< tt))
  fence_look (suc n) s = rw (laws.ascii_continues 0x23 (lit< tt))

  -- the r, b or br before a hash or a quote is a word
  prefix_look : (x : List ℕ) (c : ℕ) (s : List ℕ) → begins letter x ≡ true → all word x ≡ true → continues c ≡ false → look (x ++ c ∷ s) ≡ look_run x (c ∷ s)
  prefix_look x c s b a n = run_look (ascii_word laws x (c ∷ s) b a n)

  name_look : {w : Way} {s x r : List ℕ} → Name starts continues w s x r → after_name r ≡ true → look s ≡ named_rule w r
  name_look (plain_name {s} {x} {r} h n) a = word_look h a ∙ ap (λ b. cond b (cond (same x (codes "Some")) some_rule word_rule) (named_rule plain r)) n
  name_look (raw_name {s' = s'} e h) a = ap look e ∙ prefix_look (codes "r") hash s' refl refl (laws.ascii_continues 0x23 (lit< tt)) ∙ raw_look h

  pub number_look : (s : List ℕ) → begins number_first s ≡ true → look s ≡ number_rule
  number_look [] h = absurd (both_ways false refl h)
  number_look (c ∷ s) h =
      rw (no_number_first laws c h, apart number_first c 0x5B h refl, apart number_first c 0x28 h refl, apart number_first c 0x22 h refl, apart number_first c 0x27 h refl)

  pub item_look : {k : Rule} {s r : List ℕ} {t : Tree} → Item starts continues k s t r → after r ≡ true → look s ≡ k
  item_look (is_word {s} {x} {r} h n m) a =
      word_look h (after_goes r a) ∙ ap (λ b. cond b (cond (same x (codes "Some")) some_rule word_rule) (named_rule plain r)) n ∙ ap (λ b. cond b some_rule word_rule) m
  item_look (is_number {s} h) a = number_look s (run_begins h)
  item_look (is_name {w} {s} {x} {r} n) a = name_look n (after_goes r a) ∙ ap (λ b. cond b (headed_rule w) (name_rule w)) (no_open r a)
  item_look (is_text e q) a = rw (e, laws.ascii_starts 0x22 (lit< tt))
  item_look (is_raw_text n {s' = s'} e q) a = ap look e ∙ prefix_look (codes "r") hash _ refl refl (laws.ascii_continues 0x23 (lit< tt)) ∙ fence_look n s'
  item_look (is_bytes {s' = s'} e q) a = ap look e ∙ prefix_look (codes "b") quote s' refl refl (laws.ascii_continues 0x22 (lit< tt))
  item_look (is_raw_bytes n e q) a = ap look e ∙ prefix_look (codes "br") hash _ refl refl (laws.ascii_continues 0x23 (lit< tt))
  item_look (is_character (char_bare e n)) a = rw (e, laws.ascii_starts 0x27 (lit< tt))
  item_look (is_character (char_escape e n)) a = rw (e, laws.ascii_starts 0x27 (lit< tt))
  item_look (is_list e i) a = rw (e, laws.ascii_starts 0x5B (lit< tt))
  item_look (is_group e i) a = rw (e, laws.ascii_starts 0x28 (lit< tt))
  item_look (is_headed n b i) a = name_look n (rw (skips b refl)) ∙ rw (skips b refl)
  item_look (is_some {s₁ = s₁} e b i) a =
      let h : after_name s₁ ≡ true = rw (skips b refl) in
      ap look e ∙ word_look (ascii_word laws (codes "Some") s₁ refl refl (over continues s₁ laws.no_blank_continues (no_closer_next laws) h)) h

  -- what no item begins with: a hash, a comma, a closing bracket or a blank
  abbrev pub stopping : ℕ → Bool
  stopping c = among (0x23 ∷ closers) c || blank c

  not_stopping : (p : ℕ → Bool) (s : List ℕ) → none_in p (0x23 ∷ closers) ≡ true → ((c : ℕ) → p c ≡ true → blank c ≡ false) → begins p s ≡ true → begins stopping s ≡ false
  not_stopping p [] n b h = refl
  not_stopping p (c ∷ s) n b h = or_from (among (0x23 ∷ closers) c) (blank c) (not_among p (0x23 ∷ closers) c n h) (b c h)

  name_begins : {w : Way} {s x r : List ℕ} → Name starts continues w s x r → begins stopping s ≡ false
  name_begins (plain_name {s} h n) = not_stopping (first_char starts) s (no_closer_first laws) (no_blank_first laws) (run_begins h)
  name_begins (raw_name e h) = rw e

  pub item_begins : {k : Rule} {s r : List ℕ} {t : Tree} → Item starts continues k s t r → begins stopping s ≡ false
  item_begins (is_word {s} h n m) = not_stopping (first_char starts) s (no_closer_first laws) (no_blank_first laws) (run_begins h)
  item_begins (is_number {s} h) = not_stopping number_first s refl (λ c. not_among number_first blanks c refl) (run_begins h)
  item_begins (is_name n) = name_begins n
  item_begins (is_text e q) = rw e
  item_begins (is_raw_text n e q) = rw e
  item_begins (is_bytes e q) = rw e
  item_begins (is_raw_bytes n e q) = rw e
  item_begins (is_character (char_bare e n)) = rw e
  item_begins (is_character (char_escape e n)) = rw e
  item_begins (is_list e i) = rw e
  item_begins (is_group e i) = rw e
  item_begins (is_headed n b i) = name_begins n
  item_begins (is_some e b i) = rw e

  pub solid : {k : Rule} {s r : List ℕ} {t : Tree} → Item starts continues k s t r → begins blank s ≡ false
  solid {s = s} i = step s (item_begins i)
    where
      step : (s : List ℕ) → begins stopping s ≡ false → begins blank s ≡ false
      step [] h = refl
      step (c ∷ s) h = (or_parts (among (0x23 ∷ closers) c) (blank c) h).1
