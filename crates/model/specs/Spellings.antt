-- What an accepted call appends: the layout before an element, then its word; or what a frame is opened or closed with.
-- From the methods of `Serializer` in src/ser/mod.rs of ron 0.12.3. Assumes nothing.
use Rattle.std.specs.Prelude.{ℕ, cond, List, [], ◌∷◌, ◌++◌, codes}
use Rattle.chars.specs.Utf8.{decoded}
use Rattle.words.specs.Escapes.{escaped_str}
use Rattle.words.specs.Names.{identifier}
use Rattle.words.specs.RawText.{unescaped_or_raw_str}
use Rattle.literals.specs.Bytes.{escaped_byte_str, unescaped_or_raw_byte_str}
use Rattle.literals.specs.Characters.{character}
use Rattle.literals.specs.Floats.{float, float_suffix}
use Rattle.literals.specs.Integers.{integer}
use Rattle.grammar.specs.Items as brackets
use Rattle.model.specs.Settings.{Settings, on, names, suffixed, escaped}
use Rattle.model.specs.Requests.{Value, none, a_bool, an_integer, a_float, a_char, a_str, bytes, unit, unit_struct, unit_variant, Opening, kind_of, announced, type_suffix, Request, put, start, end, abandon, finish}
use Rattle.model.specs.States.{Table, Frame, Layout, State}
use Rattle.model.specs.Heads.{silent, bracket, head, head_bytes}
use Rattle.model.specs.Layouts.{repeated, before, entered, behind_opening, before_closing}

-- None, in as many Somes as silent ones wait for a value
abbrev pub none_bytes : ℕ → List ℕ
none_bytes depth = repeated depth (codes "Some(") ++ (codes "None" ++ repeated depth (codes ")"))

-- a value, given how many silent Somes wait for it
abbrev pub value_bytes : Table → Settings → ℕ → Value → List ℕ
value_bytes t s depth none = none_bytes depth
value_bytes t s depth (a_bool b) = cond b (codes "true") (codes "false")
value_bytes t s depth (an_integer type n) = integer n (suffixed s.config) (type_suffix type)
value_bytes t s depth (a_float width x) = float (suffixed s.config) (float_suffix width) x
value_bytes t s depth (a_char c) = character c
value_bytes t s depth (a_str x) = cond (escaped s.config) (escaped_str t.shown (decoded x)) (unescaped_or_raw_str (decoded x))
value_bytes t s depth (bytes x) = cond (escaped s.config) (escaped_byte_str x) (unescaped_or_raw_byte_str x)
value_bytes t s depth unit = codes "()"
value_bytes t s depth (unit_struct name) = cond (names s) (identifier t.starts t.continues (decoded name)) (codes "()")
value_bytes t s depth (unit_variant name variant) = identifier t.starts t.continues (decoded variant)

-- an opening: nothing if it is silent; else its head, its bracket, and the new line of a wide frame
abbrev pub opening_bytes : Table → Settings → Layout → Opening → List ℕ
opening_bytes t s l o =
    cond (silent (on s) (kind_of o)) []
    (head_bytes t (head (names s) o)
    ++ (brackets.opening (bracket (kind_of o)) ∷ behind_opening s.config (kind_of o) (entered s.config (kind_of o) (announced o) l)))

-- an end: nothing if the frame is silent; else what is left of the layout, and the closing bracket
abbrev pub closing_bytes : Settings → Layout → Frame → List ℕ
closing_bytes s l f =
    cond (silent (on s) f.kind) []
    (before_closing s.config l f ++ (brackets.closing (bracket f.kind) ∷ []))

-- the end of the innermost frame
abbrev pub end_bytes : Settings → Layout → List Frame → List ℕ
end_bytes s l [] = []
end_bytes s l (f ∷ fs) = closing_bytes s l f

-- what stands before the next element
abbrev pub lead : State → List ℕ
lead s = before s.settings.config s.layout s.frames

-- what a request appends if it is accepted
abbrev pub appended : State → Request → List ℕ
appended s (put t v) = lead s ++ value_bytes s.table s.settings s.implicit_some_depth v
appended s (start t o) = lead s ++ opening_bytes s.table s.settings s.layout o
appended s (end t) = end_bytes s.settings s.layout s.frames
appended s abandon = []
appended s finish = []
