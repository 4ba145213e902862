-- Texts with what they read as, and texts that read as nothing, with any table of characters.
-- Assumes nothing.
use Rattle.std.specs.Prelude.{ℕ, Bool, [], ◌∷◌, codes}
use Prim.Native.String.{String}
use Rattle.chars.specs.Utf8.{encodes}
use Rattle.grammar.specs.Trees.{headless, named, some_head, Tree, a_word, a_number, a_name, a_text, a_byte_string, a_character, a_list, a_group, ∅, ◌&◌}
use Rattle.grammar.specs.Readings.{Reads}

module _ (starts continues : ℕ → Bool) where
  -- a text, in UTF-8, reads as a tree; it reads as none
  abbrev pub As : String → Tree → Type 0
  As s t = Reads starts continues (encodes (codes s)) t

  abbrev pub Unread : String → Type 0
  Unread s = (t : Tree) → As s t → ⊥

  pub record WorkedReadings : Type 0 where
    -- a word goes as far as it can, and a reserved one is a name behind r#
    pub longer_word : As "trueish" (a_name (codes "trueish"))
    pub raw_name : As "r#true" (a_name (codes "true"))
    -- a raw text ends at the first quote with as many hashes
    pub raw_text : As "r#\"a\"b\"#" (a_text (codes "a\"b"))
    -- escapes, the digits of a code in either case
    pub escaped_text : As "\"\\u{1F52a}\\n'\"" (a_text (0x1F52A ∷ 0x0A ∷ 0x27 ∷ []))
    pub quote_character : As "'\\''" (a_character 0x27)
    -- what stands bare in a byte string stands for its UTF-8 bytes
    pub byte_string : As "b\"\\x00é\"" (a_byte_string (0x00 ∷ 0xC3 ∷ 0xA9 ∷ []))
    pub raw_byte_string : As "br#\"\\é\"#" (a_byte_string (0x5C ∷ 0xC3 ∷ 0xA9 ∷ []))
    pub nested : As "a(-1, [ true, ] )" (a_group (named (codes "a")) (a_number (codes "-1") & a_list (a_word (codes "true") & ∅) & ∅))
    pub some_group : As "Some(1,2)" (a_group some_head (a_number (codes "1") & a_number (codes "2") & ∅))
    pub two_headers : As "#![enable(implicit_some)]\n# ! [enable( unwrap_newtypes )] ()" (a_group headless ∅)
    -- no reading at all
    pub unknown_header : Unread "#![enable(x)]1"
    pub two_items : Unread "1 2"
    pub lone_comma : Unread "(,)"
    pub lone_some : Unread "Some"
