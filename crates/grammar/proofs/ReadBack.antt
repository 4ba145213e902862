-- All literals together read back.
use Rattle.std.proofs.Common.{ℕ, Bool}
use Rattle.chars.specs.Tables.{Lawful}
use Rattle.grammar.specs.ReadBack.{LiteralsReadBack}
use Rattle.grammar.proofs.Alone.{whole_literal}
use Rattle.grammar.proofs.BytesBack.{escaped_bytes_back, plain_bytes_back}
use Rattle.grammar.proofs.NamesBack.{name_back, name_item_back}
use Rattle.grammar.proofs.FloatsBack.{float_back}
use Rattle.grammar.proofs.NumbersBack.{integer_back}
use Rattle.grammar.proofs.RawBack.{plain_text_back}
use Rattle.grammar.proofs.TextsBack.{character_back, escaped_text_back}
use Rattle.grammar.proofs.WordsBack.{word_back}

pub literals_back : {starts continues shown : ℕ → Bool} → Lawful starts continues shown → LiteralsReadBack starts continues shown
literals_back law = record {
  names = name_back law;
  name_items = name_item_back law;
  words = word_back law;
  integers = integer_back _ _;
  floats = float_back law;
  characters = character_back _ _;
  escaped_texts = escaped_text_back _ _ _;
  plain_texts = plain_text_back _ _;
  escaped_byte_strings = λ bs h _. escaped_bytes_back _ _ bs h;
  plain_byte_strings = λ bs h _. plain_bytes_back _ _ bs h;
  alone = whole_literal _ _;
}
