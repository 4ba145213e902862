-- How a document begins: the tests of the three layout strings, the header, and the state of a new document.
-- From `with_options` of src/ser/mod.rs of ron 0.12.3. Assumes nothing.
use Rattle.std.specs.Prelude.{ℕ, ◌-◌, Bool, true, false, cond, not, ◌&&◌, List, [], ◌++◌, length, Some, None, codes, Option, nat_le}
use Rattle.std.specs.Option.{option_map}
use Rattle.chars.specs.Blanks.{blank}
use Rattle.words.specs.Classes.{text_of}
use Rattle.grammar.specs.Readings.{Extension, extension_name, unwrap_newtypes, implicit_some, explicit_struct_names}
use Rattle.model.specs.Refusals.{first, refused_unless, unless}
use Rattle.model.specs.Settings.{Extensions, PrettyConfig, Settings, has}
use Rattle.model.specs.States.{Table, Allowance, State}
use Rattle.model.specs.declared.refusal.Refusal.{Refusal}
use Rattle.model.specs.declared.refusal.Refusal.TheVariants.{NewLineNotBlank, IndentorNotBlank, SeparatorNotBlank, LayoutTooLong, NoSpace}

-- a layout string has at most this many bytes
abbrev pub longest_layout : ℕ
longest_layout = 32

-- one string: too long, or else not UTF-8 of blanks alone
abbrev pub string_refusal : Refusal → List ℕ → Option Refusal
string_refusal e s = first (refused_unless (nat_le (length s) longest_layout) LayoutTooLong) (refused_unless (text_of blank s) e)

-- the three strings in their order
abbrev pub layout_refusal : Option PrettyConfig → Option Refusal
layout_refusal None = None
layout_refusal (Some c) =
    first (string_refusal NewLineNotBlank c.new_line)
    (first (string_refusal IndentorNotBlank c.indentor)
    (string_refusal SeparatorNotBlank c.separator))

-- `#![enable(name)]` and a new line, for an extension that is configured and no default
abbrev pub enabling : Extensions → PrettyConfig → Extension → List ℕ
enabling defaults c e =
    cond (has c.extensions e && not (has defaults e)) (codes "#![enable(" ++ (extension_name e ++ (codes ")]" ++ c.new_line))) []

-- for each extension in declared order; nothing without a configuration
abbrev pub header : Extensions → Option PrettyConfig → List ℕ
header defaults None = []
header defaults (Some c) =
    enabling defaults c unwrap_newtypes ++ (enabling defaults c implicit_some ++ enabling defaults c explicit_struct_names)

abbrev pub header_of : Settings → List ℕ
header_of s = header s.default_extensions s.config

-- beginning is refused for a string, or else since the header exceeds the space
abbrev pub beginning_refusal : Settings → ℕ → Option Refusal
beginning_refusal s space = first (layout_refusal s.config) (refused_unless (nat_le (length (header_of s)) space) NoSpace)

-- the whole limit is left
abbrev pub whole_limit : Option ℕ → Option Allowance
whole_limit limit = option_map (λ n. record { left = n; least = n }) limit

-- a document without a frame or an item, closed or not, that appended a text
abbrev pub new : Table → Settings → Bool → List ℕ → ℕ → State
new t s closed text space = record {
  table = t;
  settings = s;
  closed = closed;
  frames = [];
  filled = false;
  layout = record { indent = 0; is_empty = None };
  implicit_some_depth = 0;
  allowance = whole_limit s.recursion_limit;
  text = text;
  space = space;
}

-- a document that begins on a sink with this space: it appends the header; refused, it is closed
abbrev pub begun : Table → Settings → ℕ → State
begun t s space =
    unless (beginning_refusal s space)
    (new t s false (header_of s) (space - length (header_of s)))
    (λ e. new t s true [] space)
