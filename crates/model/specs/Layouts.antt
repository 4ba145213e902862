-- The layout: what stands between and around the elements of a frame, and how it changes the indent.
-- From `start_indent`, `end_indent`, `serialize_element` and `end` of src/ser/mod.rs of ron 0.12.3. Assumes nothing.
use Rattle.std.specs.Prelude.{ℕ, zero, suc, ◌+◌, ◌-◌, Bool, false, cond, not, ◌&&◌, List, [], ◌∷◌, ◌++◌, Some, None, Option, ◌==◌, nat_le}
use Rattle.std.specs.Option.{unwrap_or}
use Rattle.model.specs.Settings.{PrettyConfig}
use Rattle.model.specs.States.{Frame, Layout}
use Rattle.model.specs.declared.kind.Kind.{Kind}
use Rattle.model.specs.declared.kind.Kind.TheVariants as kinds

abbrev pub comma : ℕ
comma = 0x2C

-- n times the bytes
abbrev pub repeated : ℕ → List ℕ → List ℕ
repeated zero x = []
repeated (suc n) x = x ++ repeated n x

-- a frame is wide if it is a sequence without `compact_arrays`, or a tuple of any kind with `separate_tuple_members`
abbrev pub widened : PrettyConfig → Kind → Bool
widened c kinds.Some = false
widened c kinds.NewtypeStruct = false
widened c kinds.NewtypeVariant = false
widened c kinds.Seq = not c.compact_arrays
widened c kinds.Tuple = c.separate_tuple_members
widened c kinds.TupleStruct = c.separate_tuple_members
widened c kinds.TupleVariant = c.separate_tuple_members

-- without a configuration none is
abbrev pub wide : Option PrettyConfig → Kind → Bool
wide None k = false
wide (Some c) k = widened c k

-- it is near if the indent is at most the depth limit
abbrev pub near : Option PrettyConfig → ℕ → Bool
near None indent = false
near (Some c) indent = nat_le indent c.depth_limit

-- the elements of a wide, near frame stand on lines of their own
abbrev pub lined : Option PrettyConfig → Kind → ℕ → Bool
lined config k indent = wide config k && near config indent

-- the three strings, empty without a configuration
abbrev pub new_line : Option PrettyConfig → List ℕ
new_line None = []
new_line (Some c) = c.new_line

abbrev pub indentor : Option PrettyConfig → List ℕ
indentor None = []
indentor (Some c) = c.indentor

abbrev pub separator : Option PrettyConfig → List ℕ
separator None = []
separator (Some c) = c.separator

-- after a comma: a new line if the elements are on lines, else the separator
abbrev pub after_comma : Option PrettyConfig → Bool → List ℕ
after_comma config lines = cond lines (new_line config) (separator config)

-- before each element but the first: a comma and what goes after it
abbrev pub parted : Option PrettyConfig → Bool → ℕ → List ℕ
parted config lines elements = cond (elements == 0) [] (comma ∷ after_comma config lines)

-- before each element on a line: the indentor, as often as the indent says
abbrev pub indented : Option PrettyConfig → Bool → ℕ → List ℕ
indented config lines indent = cond lines (repeated indent (indentor config)) []

-- all that stands before the next element of the innermost frame; at the top nothing does
abbrev pub before : Option PrettyConfig → Layout → List Frame → List ℕ
before config l [] = []
before config l (f ∷ fs) =
    parted config (lined config f.kind l.indent) f.elements
    ++ indented config (lined config f.kind l.indent) l.indent

-- `is_empty` after a length was announced: whether it is 0; it stays if none was
abbrev pub told : Option ℕ → Option Bool → Option Bool
told None e = e
told (Some n) e = Some (n == 0)

-- `is_empty` is true
abbrev pub empty : Layout → Bool
empty l = unwrap_or l.is_empty false

-- a wide frame that is opened tells whether it is empty, and adds 1 to the indent
abbrev pub entered : Option PrettyConfig → Kind → Option ℕ → Layout → Layout
entered config k len l = cond (wide config k) (record { indent = l.indent + 1; is_empty = told len l.is_empty }) l

-- behind its opening bracket stands a new line if it is near then and not told to be empty
abbrev pub behind_opening : Option PrettyConfig → Kind → Layout → List ℕ
behind_opening config k l = cond (lined config k l.indent && not (empty l)) (new_line config) []

-- before its closing bracket stand a comma and a new line, if it is wide and near and has elements
abbrev pub trailing : Option PrettyConfig → Bool → ℕ → List ℕ
trailing config lines elements = cond (lines && not (elements == 0)) (comma ∷ new_line config) []

-- and then the indentor, once less than the indent says, if it is wide and near and not told to be empty
abbrev pub before_closing : Option PrettyConfig → Layout → Frame → List ℕ
before_closing config l f =
    trailing config (lined config f.kind l.indent) f.elements
    ++ cond (lined config f.kind l.indent && not (empty l)) (repeated (l.indent - 1) (indentor config)) []

-- a wide frame that is ended takes 1 from the indent and unsets `is_empty`
abbrev pub left : Option PrettyConfig → Kind → Layout → Layout
left config k l = cond (wide config k) (record { indent = l.indent - 1; is_empty = None }) l
