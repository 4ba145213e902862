-- Literals read back: the bytes that are written for a value spell characters that read as that value, whatever may follow them.
-- Assumes nothing.
use Rattle.std.specs.Prelude.{◌≡◌, ℕ, ◌<◌, Bool, true, false, cond, ◌||◌, List, [], ◌∷◌, ◌++◌, ℤ, None, codes}
use Rattle.std.specs.List.{AllByRecursion}
use Rattle.chars.specs.Blanks.{among, blank}
use Rattle.chars.specs.Tables.{letter, digit}
use Rattle.chars.specs.Utf8.{scalars, encodes, decoded}
use Rattle.words.specs.Classes.{all}
use Rattle.words.specs.Escapes.{escaped_str}
use Rattle.words.specs.Names.{same, reserved, identifier}
use Rattle.words.specs.RawText.{unescaped_or_raw_str}
use Rattle.words.specs.Refusals.{text_refusal, name_refusal}
use Rattle.literals.specs.Bytes.{escaped_byte_str, unescaped_or_raw_byte_str, bytes_refusal}
use Rattle.literals.specs.Characters.{character, char_refusal}
use Rattle.literals.specs.Floats.{float, float_suffix, float_refusal}
use Rattle.literals.specs.Integers.{integer}
use Rattle.literals.specs.declared.float.Width.{Width}
use Rattle.grammar.specs.Trees.{Tree, a_word, a_number, a_name, a_text, a_byte_string, a_character}
use Rattle.grammar.specs.Tokens.{begins, number_first, Way, Name}
use Rattle.grammar.specs.Items.{Rule, Item}
use Rattle.grammar.specs.Readings.{Reads}

-- what may stand behind an item or the head of a group: the end, or a blank, a comma, a closing bracket or `(`
abbrev pub ends_token : List ℕ → Bool
ends_token [] = true
ends_token (c ∷ r) = blank c || among (codes ",])(") c

-- bytes that spell scalar values which, in front of any r, stand in a relation to r
pub record Spells (R : List ℕ → List ℕ → Type 0) (bytes : List ℕ) : Type 0 where
  pub characters : List ℕ
  pub spelled : bytes ≡ encodes characters
  pub valid : scalars characters ≡ true
  pub before : (r : List ℕ) → R (characters ++ r) r

-- a suffix is made of letters and digits
abbrev pub suffix_char : ℕ → Bool
suffix_char c = letter c || digit c

-- a float reads as a number if it begins like one, and else (`NaN` and `inf`) as a word
abbrev pub float_tree : List ℕ → Tree
float_tree x = cond (begins number_first x) (a_number x) (a_word x)

module _ (starts continues : ℕ → Bool) where
  -- a literal reads as an item that means t, before all that may stand behind an item
  abbrev pub ReadsBack : List ℕ → Tree → Type 0
  ReadsBack literal t = Spells (λ s r. ends_token r ≡ true → (k : Rule) × Item starts continues k s t r) literal

  -- a literal reads as the name x, by itself or as the head of a group
  abbrev pub ReadsBackAsName : List ℕ → List ℕ → Type 0
  ReadsBackAsName literal x = Spells (λ s r. ends_token r ≡ true → (w : Way) × Name starts continues w s x r) literal

-- every literal whose argument is not refused reads back as what was put in
pub record LiteralsReadBack (starts continues shown : ℕ → Bool) : Type 0 where
  -- names, as such and as items
  pub names : (s : List ℕ) → name_refusal continues s ≡ None → ReadsBackAsName starts continues (identifier starts continues (decoded s)) (decoded s)
  pub name_items : (s : List ℕ) → name_refusal continues s ≡ None → ReadsBack starts continues (identifier starts continues (decoded s)) (a_name (decoded s))
  -- reserved words, but for `Some`
  pub words : (x : List ℕ) → reserved x ≡ true → same x (codes "Some") ≡ false → ReadsBack starts continues x (a_word x)
  -- integers, with any suffix or none
  pub integers : (v : ℤ) (on : Bool) (suffix : List ℕ) → all suffix_char suffix ≡ true → ReadsBack starts continues (integer v on suffix) (a_number (integer v on suffix))
  -- floats, with their suffix or none
  pub floats : (s : List ℕ) (on : Bool) (width : Width) → float_refusal s ≡ None → ReadsBack starts continues (float on (float_suffix width) s) (float_tree (float on (float_suffix width) s))
  -- characters
  pub characters : (n : ℕ) → char_refusal n ≡ None → ReadsBack starts continues (character n) (a_character n)
  -- texts, escaped, and quoted as they are or raw
  pub escaped_texts : (s : List ℕ) → text_refusal s ≡ None → ReadsBack starts continues (escaped_str shown (decoded s)) (a_text (decoded s))
  pub plain_texts : (s : List ℕ) → text_refusal s ≡ None → ReadsBack starts continues (unescaped_or_raw_str (decoded s)) (a_text (decoded s))
  -- byte strings in the same two ways
  pub escaped_byte_strings : (bs : List ℕ) → AllByRecursion (λ b. b < 256) bs → bytes_refusal bs ≡ None → ReadsBack starts continues (escaped_byte_str bs) (a_byte_string bs)
  pub plain_byte_strings : (bs : List ℕ) → AllByRecursion (λ b. b < 256) bs → bytes_refusal bs ≡ None → ReadsBack starts continues (unescaped_or_raw_byte_str bs) (a_byte_string bs)
  -- so a literal by itself is a text that reads as its tree
  pub alone : (literal : List ℕ) (t : Tree) → ReadsBack starts continues literal t → Reads starts continues literal t
