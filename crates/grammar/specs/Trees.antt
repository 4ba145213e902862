-- What a RON text means: a tree of words, numbers, names, texts, byte strings, characters, lists and groups.
-- A character is its scalar value, a plain number. From the grammar of RON (docs/grammar.md of ron). Assumes nothing.
use Rattle.std.specs.Prelude.{ℕ, List}

-- what stands before the bracket of a group: nothing, a name, or the word `Some`
pub data Head : Type 0 where
  headless : Head
  named : List ℕ → Head
  some_head : Head

mutual
  -- words and numbers are kept as they are spelled; of a name only its own characters, of a string what it stands for
  pub data Tree : Type 0 where
    a_word : List ℕ → Tree
    a_number : List ℕ → Tree
    a_name : List ℕ → Tree
    a_text : List ℕ → Tree
    a_byte_string : List ℕ → Tree
    a_character : ℕ → Tree
    a_list : Trees → Tree
    a_group : Head → Trees → Tree

  -- items in their order
  pub data Trees : Type 0 where
    ∅ : Trees
    ◌&◌ : Tree → Trees → Trees

infixr 66 ◌&◌
