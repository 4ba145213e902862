-- Why a call is refused, by number; and how tests are put one after another.
-- The numbers are those that users look up; 5 is that of a table of characters. Assumes nothing.
use Rattle.std.specs.Prelude.{ℕ, Bool, cond, Some, None, Option}
use Rattle.std.specs.Option.{option_map}
use Rattle.words.specs.declared.refusal.Refusal.{Refusal as WordRefusal}
use Rattle.words.specs.declared.refusal.Refusal.TheVariants as word
use Rattle.model.specs.declared.refusal.Refusal.{Refusal}
use Rattle.model.specs.declared.refusal.Refusal.TheVariants.{NewLineNotBlank, IndentorNotBlank, SeparatorNotBlank, LayoutTooLong, InvalidIdentifier, NotUtf8, NotScalar, NotFloat, TooLong, Filled, WrongTicket, EndedEmpty, Closed, Unfinished, ExceededRecursionLimit, TooManyFrames, TooManyElements, NoSpace}

abbrev pub number : Refusal → ℕ
number NewLineNotBlank = 1
number IndentorNotBlank = 2
number SeparatorNotBlank = 3
number LayoutTooLong = 4
number InvalidIdentifier = 6
number NotUtf8 = 7
number NotScalar = 8
number NotFloat = 9
number TooLong = 10
number Filled = 11
number WrongTicket = 12
number EndedEmpty = 13
number Closed = 14
number Unfinished = 15
number ExceededRecursionLimit = 16
number TooManyFrames = 17
number TooManyElements = 18
number NoSpace = 19

-- what refuses a word refuses the call that writes it, by the same number
abbrev pub of_word : WordRefusal → Refusal
of_word word.InvalidIdentifier = InvalidIdentifier
of_word word.NotUtf8 = NotUtf8
of_word word.NotScalar = NotScalar
of_word word.NotFloat = NotFloat
of_word word.TooLong = TooLong
of_word word.NoSpace = NoSpace

-- an argument's test as a test of the call
abbrev pub argument : Option WordRefusal → Option Refusal
argument o = option_map of_word o

-- one test: refused where it does not hold
abbrev pub refused_unless : Bool → Refusal → Option Refusal
refused_unless holds e = cond holds None (Some e)

-- one test: refused where it holds
abbrev pub refused_if : Bool → Refusal → Option Refusal
refused_if holds e = cond holds (Some e) None

-- one test after another: the first that refuses
abbrev pub first : Option Refusal → Option Refusal → Option Refusal
first None o = o
first (Some e) o = Some e

-- one thing where nothing refuses, another, which may tell why, where something does
abbrev pub unless : {A : Type 0} → Option Refusal → A → (Refusal → A) → A
unless None x f = x
unless (Some e) x f = f e
