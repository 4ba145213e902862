-- What a document of one value is written as, and when it is refused. Assumes nothing.
use Rattle.std.specs.Prelude.{ℕ, Bool, cond, List, pos, None, vec_items, codes, Option}
use Rattle.chars.specs.Utf8.{decoded}
use Rattle.words.specs.Escapes.{escaped_str}
use Rattle.words.specs.Names.{identifier}
use Rattle.words.specs.RawText.{unescaped_or_raw_str}
use Rattle.words.specs.Refusals.{first_refusal, text_refusal, name_refusal}
use Rattle.words.specs.declared.refusal.Refusal.{Refusal}
use Rattle.literals.specs.Bytes.{bytes_refusal, escaped_byte_str, unescaped_or_raw_byte_str}
use Rattle.literals.specs.Characters.{character, char_refusal}
use Rattle.literals.specs.Floats.{float, float_suffix, float_refusal}
use Rattle.literals.specs.Integers.{integer}
use Rattle.replay.specs.declared.value.Settings.{Settings}
use Rattle.replay.specs.declared.value.Value.{Value}
use Rattle.replay.specs.declared.value.Value.TheVariants.{Bool as of_bool, I8, I16, I32, I64, U8, U16, U32, U64, Float, Char, Str, Bytes, Unit, UnitStruct, UnitVariant}

module _ (starts continues shown : ℕ → Bool) (settings : Settings) where
  abbrev pub value_text : Value → List ℕ
  value_text (of_bool b) = cond b (codes "true") (codes "false")
  value_text (I8 n) = integer n settings.number_suffixes (codes "i8")
  value_text (I16 n) = integer n settings.number_suffixes (codes "i16")
  value_text (I32 n) = integer n settings.number_suffixes (codes "i32")
  value_text (I64 n) = integer n settings.number_suffixes (codes "i64")
  value_text (U8 n) = integer (pos n) settings.number_suffixes (codes "u8")
  value_text (U16 n) = integer (pos n) settings.number_suffixes (codes "u16")
  value_text (U32 n) = integer (pos n) settings.number_suffixes (codes "u32")
  value_text (U64 n) = integer (pos n) settings.number_suffixes (codes "u64")
  value_text (Float width s) = float settings.number_suffixes (float_suffix width) (vec_items s)
  value_text (Char n) = character n
  value_text (Str s) = cond settings.escape_strings (escaped_str shown (decoded (vec_items s))) (unescaped_or_raw_str (decoded (vec_items s)))
  value_text (Bytes s) = cond settings.escape_strings (escaped_byte_str (vec_items s)) (unescaped_or_raw_byte_str (vec_items s))
  value_text Unit = codes "()"
  value_text (UnitStruct name) = cond settings.struct_names (identifier starts continues (decoded (vec_items name))) (codes "()")
  value_text (UnitVariant name variant) = identifier starts continues (decoded (vec_items variant))

  -- names are checked whether they are written or not, the type's before the variant's
  abbrev pub value_refusal : Value → Option Refusal
  value_refusal (of_bool b) = None
  value_refusal (I8 n) = None
  value_refusal (I16 n) = None
  value_refusal (I32 n) = None
  value_refusal (I64 n) = None
  value_refusal (U8 n) = None
  value_refusal (U16 n) = None
  value_refusal (U32 n) = None
  value_refusal (U64 n) = None
  value_refusal (Float width s) = float_refusal (vec_items s)
  value_refusal (Char n) = char_refusal n
  value_refusal (Str s) = text_refusal (vec_items s)
  value_refusal (Bytes s) = bytes_refusal (vec_items s)
  value_refusal Unit = None
  value_refusal (UnitStruct name) = name_refusal continues (vec_items name)
  value_refusal (UnitVariant name variant) = first_refusal (name_refusal continues (vec_items name)) (name_refusal continues (vec_items variant))
