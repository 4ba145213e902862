-- What a document can be asked for: a value, an opening, an end, abandon and finish, each with its arguments and what it shows.
-- One for each method of serde's `Serializer` that ron 0.12.3 has and that this writer takes. Assumes nothing.
use Rattle.std.specs.Prelude.{ℕ, ◌<◌, Bool, List, ℤ, Some, None, codes, Option}
use Rattle.std.specs.List.{AllByRecursion}
use Rattle.literals.specs.declared.float.Width.{Width}
use Rattle.model.specs.declared.kind.Kind.{Kind}
use Rattle.model.specs.declared.kind.Kind.TheVariants as kinds

-- what an opening hands out: the kind of its frame, and how many frames stand open with it
pub record Ticket : Type 0 where
  pub kind : Kind
  pub level : ℕ

-- the eight types of integers
pub data IntegerType : Type 0 where
  i8 i16 i32 i64 u8 u16 u32 u64 : IntegerType

abbrev pub type_suffix : IntegerType → List ℕ
type_suffix i8 = codes "i8"
type_suffix i16 = codes "i16"
type_suffix i32 = codes "i32"
type_suffix i64 = codes "i64"
type_suffix u8 = codes "u8"
type_suffix u16 = codes "u16"
type_suffix u32 = codes "u32"
type_suffix u64 = codes "u64"

-- values that open no frame; texts, names and float texts are bytes, a character is its number
pub data Value : Type 0 where
  none : Value
  a_bool : Bool → Value
  an_integer : IntegerType → ℤ → Value
  a_float : Width → List ℕ → Value
  a_char : ℕ → Value
  a_str : List ℕ → Value
  bytes : List ℕ → Value
  unit : Value
  unit_struct : (name : List ℕ) → Value
  unit_variant : (name variant : List ℕ) → Value

-- what opens a frame; a length is announced, and may be wrong
pub data Opening : Type 0 where
  some : Opening
  newtype_struct : (name : List ℕ) → Opening
  newtype_variant : (name variant : List ℕ) → Opening
  seq : (len : Option ℕ) → Opening
  tuple : (len : ℕ) → Opening
  tuple_struct : (name : List ℕ) (len : ℕ) → Opening
  tuple_variant : (name variant : List ℕ) (len : ℕ) → Opening

abbrev pub kind_of : Opening → Kind
kind_of some = kinds.Some
kind_of (newtype_struct name) = kinds.NewtypeStruct
kind_of (newtype_variant name variant) = kinds.NewtypeVariant
kind_of (seq len) = kinds.Seq
kind_of (tuple len) = kinds.Tuple
kind_of (tuple_struct name len) = kinds.TupleStruct
kind_of (tuple_variant name variant len) = kinds.TupleVariant

-- the length that is announced, if one is
abbrev pub announced : Opening → Option ℕ
announced some = None
announced (newtype_struct name) = None
announced (newtype_variant name variant) = None
announced (seq len) = len
announced (tuple len) = Some len
announced (tuple_struct name len) = Some len
announced (tuple_variant name variant len) = Some len

-- a byte string holds bytes: numbers below 256
abbrev pub BytesFit : Value → Type 0
BytesFit none = Unit {0}
BytesFit (a_bool b) = Unit {0}
BytesFit (an_integer type n) = Unit {0}
BytesFit (a_float width x) = Unit {0}
BytesFit (a_char c) = Unit {0}
BytesFit (a_str x) = Unit {0}
BytesFit (bytes x) = AllByRecursion (λ b. b < 256) x
BytesFit unit = Unit {0}
BytesFit (unit_struct name) = Unit {0}
BytesFit (unit_variant name variant) = Unit {0}

-- a request, with the ticket that it shows, or none
pub data Request : Type 0 where
  put : Option Ticket → Value → Request
  start : Option Ticket → Opening → Request
  end : Ticket → Request
  abandon : Request
  finish : Request

-- a request that a program can make: its byte strings hold bytes
abbrev pub Fits : Request → Type 0
Fits (put t v) = BytesFit v
Fits (start t o) = Unit {0}
Fits (end t) = Unit {0}
Fits abandon = Unit {0}
Fits finish = Unit {0}

-- a call is a request without its ticket
pub data Call : Type 0 where
  value : Value → Call
  opening : Opening → Call
  ending : Call
  abandoning : Call
  finishing : Call

abbrev pub call_of : Request → Call
call_of (put t v) = value v
call_of (start t o) = opening o
call_of (end t) = ending
call_of abandon = abandoning
call_of finish = finishing
