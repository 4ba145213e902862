-- What becomes of a batch name, and what a summary counts: over all lines that were read, how many came out in each way.
-- Assumes nothing.
use Rattle.std.specs.Prelude.{◌≡◌, ℕ, ◌-◌, ◌^◌, min, Bool, true, false, not, ◌&&◌, List, length, Some, None, Ok, Err, Option, Result, is_none, ◌==◌, sum_by, count_by}
use Rattle.std.specs.Result.{result_ok}
use Rattle.chars.specs.Utf8.{decoded}
use Rattle.words.specs.Classes.{plain_char, text_of}
use Rattle.words.specs.Names.{form}
use Rattle.words.specs.Refusals.{number, text_refusal, name_refusal, unless}
use Rattle.words.specs.Whole.{refused_or_short}
use Rattle.words.specs.declared.name.Form.{Form}
use Rattle.words.specs.declared.name.Form.TheVariants.{Bare, Raw}
use Rattle.words.specs.declared.refusal.Refusal.{Refusal}
use Rattle.batch_names.specs.Forms.{forms}
use Rattle.batch_names.specs.declared.summary.Summary.{Summary}
use Rattle.batch_names.specs.declared.summary.Written.{Written}

-- what becomes of a name where its forms may have so many bytes: what is written of it, with how it stands if it is a name, or why not
module _ (starts continues shown : ℕ → Bool) (space : ℕ) where
  abbrev pub outcome : List ℕ → Result Written Refusal
  outcome s =
      unless (refused_or_short (text_refusal s) (forms starts continues shown s) space)
      (record {
        bytes = length (forms starts continues shown s);
        escaped = not (text_of (plain_char shown) s);
        form = result_ok (unless (name_refusal continues s) (form starts continues (decoded s)));
      })

abbrev pub bytes : Result Written Refusal → ℕ
bytes (Ok w) = w.bytes
bytes (Err e) = 0

abbrev pub with_escapes : Result Written Refusal → Bool
with_escapes (Ok w) = w.escaped
with_escapes (Err e) = false

abbrev pub is_bare : Option Form → Bool
is_bare (Some Bare) = true
is_bare (Some Raw) = false
is_bare None = false

abbrev pub is_raw : Option Form → Bool
is_raw (Some Bare) = false
is_raw (Some Raw) = true
is_raw None = false

abbrev pub bare : Result Written Refusal → Bool
bare (Ok w) = is_bare w.form
bare (Err e) = false

abbrev pub raw : Result Written Refusal → Bool
raw (Ok w) = is_raw w.form
raw (Err e) = false

-- refused by a number: as a name by 6, as a line by 7, 10 or 19
abbrev pub refused_by : ℕ → Result Written Refusal → Bool
refused_by k (Ok w) = is_none w.form && 6 == k
refused_by k (Err e) = number e == k

-- the largest number that a count shows
abbrev pub capped : ℕ → ℕ
capped n = min n (2 ^ 64 - 1)

-- the summary of these outcomes
pub record Sums (os : List (Result Written Refusal)) (s : Summary) : Type 0 where
  pub names : s.names.0 ≡ capped (length os)
  pub bytes_written : s.bytes.0 ≡ capped (sum_by bytes os)
  pub escaped : s.escaped.0 ≡ capped (count_by with_escapes os)
  pub stand_bare : s.bare.0 ≡ capped (count_by bare os)
  pub stand_raw : s.raw.0 ≡ capped (count_by raw os)
  pub by_6 : s.no_name.0 ≡ capped (count_by (refused_by 6) os)
  pub by_7 : s.not_utf8.0 ≡ capped (count_by (refused_by 7) os)
  pub by_10 : s.too_long.0 ≡ capped (count_by (refused_by 10) os)
  pub by_19 : s.no_space.0 ≡ capped (count_by (refused_by 19) os)
