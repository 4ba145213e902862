-- The settings of a document: the default extensions, a `PrettyConfig` or none, and a recursion limit or none.
-- From src/options.rs, src/extensions.rs and src/ser/mod.rs of ron 0.12.3. Assumes nothing.
use Rattle.std.specs.Prelude.{ℕ, Bool, true, false, ◌||◌, List, Some, None, Option}
use Rattle.grammar.specs.Readings.{Extension, unwrap_newtypes, implicit_some, explicit_struct_names}

-- a set of extensions
pub record Extensions : Type 0 where
  pub unwraps_newtypes : Bool
  pub implies_some : Bool
  pub explicit_names : Bool

-- it has the extension
abbrev pub has : Extensions → Extension → Bool
has es unwrap_newtypes = es.unwraps_newtypes
has es implicit_some = es.implies_some
has es explicit_struct_names = es.explicit_names

-- how the text is laid out, and what else a configuration chooses; the strings are bytes
pub record PrettyConfig : Type 0 where
  pub depth_limit : ℕ
  pub new_line : List ℕ
  pub indentor : List ℕ
  pub separator : List ℕ
  pub struct_names : Bool
  pub separate_tuple_members : Bool
  pub extensions : Extensions
  pub compact_arrays : Bool
  pub escape_strings : Bool
  pub number_suffixes : Bool

pub record Settings : Type 0 where
  pub default_extensions : Extensions
  pub recursion_limit : Option ℕ
  pub config : Option PrettyConfig

-- the configuration has the extension
abbrev pub configured : Option PrettyConfig → Extension → Bool
configured None e = false
configured (Some c) e = has c.extensions e

-- an extension is on if it is a default or configured
abbrev pub on : Settings → Extension → Bool
on s e = has s.default_extensions e || configured s.config e

abbrev pub configured_names : Option PrettyConfig → Bool
configured_names None = false
configured_names (Some c) = c.struct_names

-- the names of structs are written if `struct_names` or `EXPLICIT_STRUCT_NAMES` is on
abbrev pub names : Settings → Bool
names s = configured_names s.config || on s explicit_struct_names

-- numbers have suffixes by `number_suffixes`, and none without a configuration
abbrev pub suffixed : Option PrettyConfig → Bool
suffixed None = false
suffixed (Some c) = c.number_suffixes

-- strings are escaped by `escape_strings`, and without a configuration
abbrev pub escaped : Option PrettyConfig → Bool
escaped None = true
escaped (Some c) = c.escape_strings
