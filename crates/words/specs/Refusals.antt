-- Why a word is refused, by number, and in which order the arguments are tested.
-- Assumes nothing.
use Rattle.std.specs.Prelude.{◌≡◌, ℕ, Bool, cond, List, length, Some, None, Ok, Err, Option, Result, nat_le}
use Rattle.chars.specs.Texts.{text_bytes}
use Rattle.chars.specs.Utf8.{utf8, decoded}
use Rattle.chars.specs.declared.text.Text.{Text}
use Rattle.words.specs.Names.{name}
use Rattle.words.specs.declared.refusal.Refusal.{Refusal}
use Rattle.words.specs.declared.refusal.Refusal.TheVariants.{InvalidIdentifier, NotUtf8, NotScalar, NotFloat, TooLong, NoSpace}

abbrev pub number : Refusal → ℕ
number InvalidIdentifier = 6
number NotUtf8 = 7
number NotScalar = 8
number NotFloat = 9
number TooLong = 10
number NoSpace = 19

-- an argument has at most this many bytes
abbrev pub longest_argument : ℕ
longest_argument = 65535

-- one test: refused where it does not hold
abbrev pub refused_unless : Bool → Refusal → Option Refusal
refused_unless holds e = cond holds None (Some e)

-- one test after another: the first that refuses
abbrev pub first_refusal : Option Refusal → Option Refusal → Option Refusal
first_refusal (Some e) o = Some e
first_refusal None o = o

-- a text: too long, or else not UTF-8
abbrev pub text_refusal : List ℕ → Option Refusal
text_refusal s = first_refusal (refused_unless (nat_le (length s) longest_argument) TooLong) (refused_unless (utf8 s) NotUtf8)

-- a name: refused as a text is, or else no name
abbrev pub name_refusal : (ℕ → Bool) → List ℕ → Option Refusal
name_refusal continues s = first_refusal (text_refusal s) (refused_unless (name continues (decoded s)) InvalidIdentifier)

-- the answer of a test: the value, unless it is refused
abbrev pub unless : {A : Type 0} → Option Refusal → A → Result A Refusal
unless None x = Ok x
unless (Some e) x = Err e

-- the text of an argument, unless it is refused
abbrev pub IsText : List ℕ → Result Text Refusal → Type 0
IsText s (Ok t) = (text_refusal s ≡ None) × (text_bytes t ≡ s)
IsText s (Err e) = text_refusal s ≡ Some e
