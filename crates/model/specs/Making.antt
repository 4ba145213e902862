-- The plain machine: it makes a tree from calls and their arguments alone, without layout, limits, tickets or text.
-- It is told which extensions are on and whether names and suffixes are. Assumes nothing.
use Rattle.std.specs.Prelude.{◌≡◌, ℕ, zero, suc, Bool, true, false, cond, ◌&&◌, List, [], ◌∷◌, ◌++◌, Some, None, codes, Option}
use Rattle.chars.specs.Utf8.{decoded}
use Rattle.literals.specs.Floats.{float, float_suffix}
use Rattle.literals.specs.Integers.{integer}
use Rattle.grammar.specs.ReadBack.{float_tree}
use Rattle.grammar.specs.Readings.{Extension}
use Rattle.grammar.specs.Trees.{Head, headless, some_head, Tree, a_word, a_number, a_name, a_text, a_byte_string, a_character, a_list, a_group, Trees, ∅, ◌&◌}
use Rattle.grammar.specs.Items.{Bracket, square, round}
use Rattle.model.specs.Requests.{Value, none, a_bool, an_integer, a_float, a_char, a_str, bytes, unit, unit_struct, unit_variant, Opening, kind_of, type_suffix, Call, value, opening, ending, abandoning, finishing}
use Rattle.model.specs.Heads.{silent, bracket, head}
use Rattle.model.specs.declared.kind.Kind.{Kind}
use Rattle.model.specs.declared.kind.Kind.TheVariants as kinds

-- what the tree depends on besides the calls
pub record Style : Type 0 where
  pub on : Extension → Bool
  pub names : Bool
  pub suffixes : Bool

-- an open frame: the call that opened it, and its items so far, the last one first
pub record Held : Type 0 where
  pub opener : Opening
  pub items : List Tree

-- the open frames, the innermost first, and the items at the top, the last one first
pub record Made : Type 0 where
  pub frames : List Held
  pub top : List Tree

-- items in their order, before those that follow
abbrev pub in_order : List Tree → Trees → Trees
in_order [] ts = ts
in_order (t ∷ xs) ts = in_order xs (t & ts)

-- a tree in n groups with the head `Some`
abbrev pub in_somes : ℕ → Tree → Tree
in_somes zero t = t
in_somes (suc n) t = a_group some_head (in_somes n t & ∅)

-- a silent Some counts, a silent newtype does not
abbrev pub one_if_some : Kind → ℕ → ℕ
one_if_some kinds.Some n = suc n
one_if_some kinds.NewtypeStruct n = n
one_if_some kinds.NewtypeVariant n = n
one_if_some kinds.Seq n = n
one_if_some kinds.Tuple n = n
one_if_some kinds.TupleStruct n = n
one_if_some kinds.TupleVariant n = n

-- how many silent Somes stand around with silent frames alone between
abbrev pub silent_somes : (Extension → Bool) → List Held → ℕ
silent_somes on [] = 0
silent_somes on (h ∷ hs) = cond (silent on (kind_of h.opener)) (one_if_some (kind_of h.opener) (silent_somes on hs)) 0

-- `()`
abbrev pub unit_tree : Tree
unit_tree = a_group headless ∅

-- the item of a value, inside these frames
abbrev pub item : Style → List Held → Value → Tree
item y hs none = in_somes (silent_somes y.on hs) (a_word (codes "None"))
item y hs (a_bool b) = a_word (cond b (codes "true") (codes "false"))
item y hs (an_integer type n) = a_number (integer n y.suffixes (type_suffix type))
item y hs (a_float width x) = float_tree (float y.suffixes (float_suffix width) x)
item y hs (a_char c) = a_character c
item y hs (a_str x) = a_text (decoded x)
item y hs (bytes x) = a_byte_string x
item y hs unit = unit_tree
item y hs (unit_struct name) = cond y.names (a_name (decoded name)) unit_tree
item y hs (unit_variant name variant) = a_name (decoded variant)

-- a group of bracket, head and items
abbrev pub grouped : Bracket → Head → Trees → Tree
grouped square h ts = a_list ts
grouped round h ts = a_group h ts

-- what a frame becomes, the last item first: a group; or, if it is silent, its items alone
abbrev pub result : Style → Held → List Tree
result y h =
    cond (silent y.on (kind_of h.opener)) h.items
    (grouped (bracket (kind_of h.opener)) (head y.names h.opener) (in_order h.items ∅) ∷ [])

-- items, the last one first, go into the innermost frame, or else to the top
abbrev pub add : List Tree → List Held → List Tree → Made
add ts [] top = record { frames = []; top = ts ++ top }
add ts (h ∷ hs) top = record { frames = record { opener = h.opener; items = ts ++ h.items } ∷ hs; top = top }

-- an end takes the innermost frame off; there has to be one
abbrev pub close : Style → List Held → List Tree → Option Made
close y [] top = None
close y (h ∷ hs) top = Some (add (result y h) hs top)

-- one call; abandon and finish add nothing
abbrev pub make : Style → Made → Call → Option Made
make y m (value v) = Some (add (item y m.frames v ∷ []) m.frames m.top)
make y m (opening o) = Some (record { frames = record { opener = o; items = [] } ∷ m.frames; top = m.top })
make y m ending = close y m.frames m.top
make y m abandoning = Some m
make y m finishing = Some m

abbrev pub make_if : Style → Option Made → Call → Option Made
make_if y None c = None
make_if y (Some m) c = make y m c

-- what calls make, the newest first, or none where an end finds no frame; the machine starts empty
abbrev pub made : Style → List Call → Option Made
made y [] = Some (record { frames = []; top = [] })
made y (c ∷ cs) = make_if y (made y cs) c

-- opens, values and ends alone
abbrev pub writes : Call → Bool
writes (value v) = true
writes (opening o) = true
writes ending = true
writes abandoning = false
writes finishing = false

abbrev pub writes_alone : List Call → Bool
writes_alone [] = true
writes_alone (c ∷ cs) = writes c && writes_alone cs

-- the calls leave no frame open and one item at the top, which is this tree
abbrev pub Makes : Style → List Call → Tree → Type 0
Makes y cs t = made y cs ≡ Some (record { frames = []; top = t ∷ [] })

-- the calls are one whole value
abbrev pub OneWholeValue : Style → List Call → Type 0
OneWholeValue y cs = (writes_alone cs ≡ true) × (t : Tree) × Makes y cs t
