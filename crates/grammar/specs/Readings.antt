-- Which tree a text reads as: the bytes are UTF-8, and their characters are any number of headers, one item, and blanks.
-- The header is the one for extensions in the grammar of RON (docs/grammar.md of ron). Assumes nothing.
use Rattle.std.specs.Prelude.{◌≡◌, ℕ, Bool, true, List, [], ◌∷◌, codes}
use Rattle.chars.specs.Utf8.{utf8, decoded}
use Rattle.grammar.specs.Trees.{Tree}
use Rattle.grammar.specs.Tokens.{Blanks, Tokens}
use Rattle.grammar.specs.Items.{Rule, Item}

-- the extensions that a header may name
pub data Extension : Type 0 where
  unwrap_newtypes implicit_some explicit_struct_names : Extension

abbrev pub extension_name : Extension → List ℕ
extension_name unwrap_newtypes = codes "unwrap_newtypes"
extension_name implicit_some = codes "implicit_some"
extension_name explicit_struct_names = codes "explicit_struct_names"

-- #![enable(name)]
abbrev pub header : Extension → List (List ℕ)
header e = codes "#" ∷ codes "!" ∷ codes "[" ∷ codes "enable" ∷ codes "(" ∷ extension_name e ∷ codes ")" ∷ codes "]" ∷ []

-- any number of headers, and then r
pub data Headers : List ℕ → List ℕ → Type 0 where
  no_headers : {s r : List ℕ} → s ≡ r → Headers s r
  one_header : (e : Extension) {s s' r : List ℕ} → Tokens (header e) s s' → Headers s' r → Headers s r

module _ (starts continues : ℕ → Bool) where
  -- characters that read as a tree: headers, blanks, an item that means the tree, blanks
  pub record Reading (s : List ℕ) (t : Tree) : Type 0 where
    pub rule : Rule
    pub behind_headers : List ℕ
    pub from : List ℕ
    pub upto : List ℕ
    pub headers : Headers s behind_headers
    pub before : Blanks behind_headers from
    pub item : Item starts continues rule from t upto
    pub after : Blanks upto []

  -- a text, in bytes, that reads as a tree
  pub record Reads (text : List ℕ) (t : Tree) : Type 0 where
    pub valid : utf8 text ≡ true
    pub reading : Reading (decoded text) t

  -- a text that has exactly one reading, this tree
  pub record ReadsOnly (text : List ℕ) (t : Tree) : Type 0 where
    pub reads : Reads text t
    pub only : (t' : Tree) → Reads text t' → t' ≡ t

  -- no text has two readings
  abbrev pub NoTextHasTwoReadings : Type 0
  NoTextHasTwoReadings = (text : List ℕ) (t t' : Tree) → Reads text t → Reads text t' → t ≡ t'
