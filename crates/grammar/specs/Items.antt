-- The items of RON (docs/grammar.md of ron) as a relation: `Item rule s t r` says that s begins with an item that the rule allows and that means t, and then goes r.
-- Nothing is said of what may stand behind an item: that follows from what the whole text is. Assumes nothing.
use Rattle.std.specs.Prelude.{◌≡◌, ℕ, suc, Bool, true, false, List, ◌∷◌, ◌++◌, replicate, codes}
use Rattle.chars.specs.Utf8.{encodes}
use Rattle.words.specs.Escapes.{quote}
use Rattle.words.specs.Names.{same, reserved}
use Rattle.words.specs.RawText.{hash}
use Rattle.grammar.specs.Trees.{headless, named, some_head, Tree, a_word, a_number, a_name, a_text, a_byte_string, a_character, a_list, a_group, Trees, ∅, ◌&◌}
use Rattle.grammar.specs.Tokens.{Blanks, Number, Way, Word, Name}
use Rattle.grammar.specs.Strings.{TextPart, BytePart, Quoted, Character, Fenced}

-- the two kinds of brackets
pub data Bracket : Type 0 where
  square round : Bracket

abbrev pub opening : Bracket → ℕ
opening square = 0x5B
opening round = 0x28

abbrev pub closing : Bracket → ℕ
closing square = 0x5D
closing round = 0x29

-- a rule for each form of an item
pub data Rule : Type 0 where
  word_rule number_rule text_rule raw_text_rule bytes_rule raw_bytes_rule character_rule list_rule group_rule some_rule : Rule
  name_rule headed_rule : Way → Rule

module _ (starts continues : ℕ → Bool) where
  mutual
    pub data Item : Rule → List ℕ → Tree → List ℕ → Type 0 where
      -- a reserved word but `Some`
      is_word : {s x r : List ℕ} → Word starts continues s x r → reserved x ≡ true → same x (codes "Some") ≡ false → Item word_rule s (a_word x) r
      is_number : {s x r : List ℕ} → Number s x r → Item number_rule s (a_number x) r
      is_name : {w : Way} {s x r : List ℕ} → Name starts continues w s x r → Item (name_rule w) s (a_name x) r
      -- "..", and raw with at least one hash on each side
      is_text : {s s' x r : List ℕ} → s ≡ quote ∷ s' → Quoted TextPart s' x r → Item text_rule s (a_text x) r
      is_raw_text : (n : ℕ) {s s' x r : List ℕ} → s ≡ codes "r" ++ (replicate (suc n) hash ++ quote ∷ s') → Fenced (suc n) s' x r → Item raw_text_rule s (a_text x) r
      -- b"..", and raw, where a character stands for its UTF-8 bytes
      is_bytes : {s s' x r : List ℕ} → s ≡ codes "b\"" ++ s' → Quoted BytePart s' x r → Item bytes_rule s (a_byte_string x) r
      is_raw_bytes : (n : ℕ) {s s' x r : List ℕ} → s ≡ codes "br" ++ (replicate (suc n) hash ++ quote ∷ s') → Fenced (suc n) s' x r → Item raw_bytes_rule s (a_byte_string (encodes x)) r
      is_character : {c : ℕ} {s r : List ℕ} → Character s c r → Item character_rule s (a_character c) r
      -- [..], and (..) without a head, behind a name, and behind `Some`
      is_list : {s s' r : List ℕ} {ts : Trees} → s ≡ opening square ∷ s' → Items square s' ts r → Item list_rule s (a_list ts) r
      is_group : {s s' r : List ℕ} {ts : Trees} → s ≡ opening round ∷ s' → Items round s' ts r → Item group_rule s (a_group headless ts) r
      is_headed : {w : Way} {s s₁ s₂ x r : List ℕ} {ts : Trees} → Name starts continues w s x s₁ → Blanks s₁ (opening round ∷ s₂) → Items round s₂ ts r → Item (headed_rule w) s (a_group (named x) ts) r
      is_some : {s s₁ s₂ r : List ℕ} {ts : Trees} → s ≡ codes "Some" ++ s₁ → Blanks s₁ (opening round ∷ s₂) → Items round s₂ ts r → Item some_rule s (a_group some_head ts) r

    -- behind an opening bracket: no item and the closing one, or an item and what follows it
    pub data Items : Bracket → List ℕ → Trees → List ℕ → Type 0 where
      no_items : {b : Bracket} {s r : List ℕ} → Blanks s (closing b ∷ r) → Items b s ∅ r
      some_items : {b : Bracket} {k : Rule} {s s₁ s₂ r : List ℕ} {t : Tree} {ts : Trees} → Blanks s s₁ → Item k s₁ t s₂ → More b s₂ ts r → Items b s (t & ts) r

    -- behind an item: the closing bracket, or a comma and then more items or none
    pub data More : Bracket → List ℕ → Trees → List ℕ → Type 0 where
      no_more : {b : Bracket} {s r : List ℕ} → Blanks s (closing b ∷ r) → More b s ∅ r
      comma : {b : Bracket} {s s₁ r : List ℕ} {ts : Trees} → Blanks s (codes "," ++ s₁) → Items b s₁ ts r → More b s ts r
