-- Which frames are silent, and what stands before the bracket of the others.
-- From src/ser/mod.rs of ron 0.12.3. Assumes nothing.
use Rattle.std.specs.Prelude.{ℕ, Bool, false, cond, List, [], codes}
use Rattle.chars.specs.Utf8.{decoded}
use Rattle.words.specs.Names.{identifier}
use Rattle.grammar.specs.Trees.{Head, headless, named, some_head}
use Rattle.grammar.specs.Items.{Bracket, square, round}
use Rattle.grammar.specs.Readings.{Extension, unwrap_newtypes, implicit_some}
use Rattle.model.specs.Requests.{Opening, some, newtype_struct, newtype_variant, seq, tuple, tuple_struct, tuple_variant}
use Rattle.model.specs.States.{Table}
use Rattle.model.specs.declared.kind.Kind.{Kind}
use Rattle.model.specs.declared.kind.Kind.TheVariants as kinds

-- a frame that writes nothing of its own: a Some under `IMPLICIT_SOME`, a newtype struct under `UNWRAP_NEWTYPES`
abbrev pub silent : (Extension → Bool) → Kind → Bool
silent on kinds.Some = on implicit_some
silent on kinds.NewtypeStruct = on unwrap_newtypes
silent on kinds.NewtypeVariant = false
silent on kinds.Seq = false
silent on kinds.Tuple = false
silent on kinds.TupleStruct = false
silent on kinds.TupleVariant = false

abbrev pub bracket : Kind → Bracket
bracket kinds.Some = round
bracket kinds.NewtypeStruct = round
bracket kinds.NewtypeVariant = round
bracket kinds.Seq = square
bracket kinds.Tuple = round
bracket kinds.TupleStruct = round
bracket kinds.TupleVariant = round

-- the name of a struct, if names are on
abbrev pub if_named : Bool → List ℕ → Head
if_named names name = cond names (named (decoded name)) headless

-- what stands before the bracket of a frame that is not silent, given whether names are on
abbrev pub head : Bool → Opening → Head
head names some = some_head
head names (newtype_struct name) = if_named names name
head names (newtype_variant name variant) = named (decoded variant)
head names (seq len) = headless
head names (tuple len) = headless
head names (tuple_struct name len) = if_named names name
head names (tuple_variant name variant len) = named (decoded variant)

-- how it is written
abbrev pub head_bytes : Table → Head → List ℕ
head_bytes t headless = []
head_bytes t (named cs) = identifier t.starts t.continues cs
head_bytes t some_head = codes "Some"
