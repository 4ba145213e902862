-- Worked documents: settings, the requests in the order in which they are made, and the text that comes out, or the refusal.
-- They hold with every lawful table of characters. Assumes nothing.
use Rattle.std.specs.Prelude.{◌≡◌, ℕ, ◌-◌, ◌^◌, Bool, true, false, List, [], ◌∷◌, map, reverse, pos, Some, None, codes, Option}
use Prim.Native.String.{String}
use Rattle.std.specs.List.{AllByRecursion}
use Rattle.chars.specs.Tables.{Lawful}
use Rattle.model.specs.Refusals.{number}
use Rattle.model.specs.Settings.{Extensions, PrettyConfig, Settings}
use Rattle.model.specs.Requests.{Ticket, Value, none, a_bool, an_integer, i32, a_str, unit_struct, unit_variant, some, seq, Request, put, start, end, Fits, call_of}
use Rattle.model.specs.States.{Table}
use Rattle.model.specs.Places.{refusal}
use Rattle.model.specs.Runs.{Run, reached, document_text, accepted}
use Rattle.model.specs.Promises.{Finishes}
use Rattle.model.specs.declared.kind.Kind.TheVariants as kinds
use Rattle.model.specs.declared.refusal.Refusal.{Refusal}
use Rattle.model.specs.declared.refusal.Refusal.TheVariants.{ExceededRecursionLimit, NoSpace}

-- the extensions are `IMPLICIT_SOME` or none
abbrev pub extensions_of : (implicit_some : Bool) → Extensions
extensions_of implicit_some = record { unwraps_newtypes = false; implies_some = implicit_some; explicit_names = false }

-- no configuration, with `IMPLICIT_SOME` as a default extension or not, and a recursion limit or none
abbrev pub without_config : (implicit_some : Bool) → (limit : Option ℕ) → Settings
without_config implicit_some limit = record { default_extensions = extensions_of implicit_some; recursion_limit = limit; config = None }

-- the default configuration but for its depth limit, its `struct_names` and its `escape_strings`
abbrev pub default_but : (depth_limit : ℕ) → (struct_names escape_strings : Bool) → PrettyConfig
default_but depth_limit struct_names escape_strings = record {
  depth_limit = depth_limit;
  new_line = 0x0A ∷ [];
  indentor = codes "    ";
  separator = codes " ";
  struct_names = struct_names;
  separate_tuple_members = false;
  extensions = extensions_of false;
  compact_arrays = false;
  escape_strings = escape_strings;
  number_suffixes = false;
}

-- a configuration and no more
abbrev pub configured_by : PrettyConfig → Settings
configured_by c = record { default_extensions = extensions_of false; recursion_limit = None; config = Some c }

-- the depth limit of the default configuration
abbrev pub no_depth_limit : ℕ
no_depth_limit = 2 ^ 64 - 1

-- the default configuration
abbrev pub default : Settings
default = configured_by (default_but no_depth_limit false true)

-- the same with a depth limit of 0; with names; without escapes
abbrev pub at_no_depth : Settings
at_no_depth = configured_by (default_but 0 false true)

abbrev pub with_names : Settings
with_names = configured_by (default_but no_depth_limit true true)

abbrev pub unescaped : Settings
unescaped = configured_by (default_but no_depth_limit false false)

-- no configuration; the same with `IMPLICIT_SOME`; with a recursion limit of 1
abbrev pub bare : Settings
bare = without_config false None

abbrev pub implying_some : Settings
implying_some = without_config true None

abbrev pub limited_to_one : Settings
limited_to_one = without_config false (Some 1)

-- the ticket of a sequence and of a Some, with so many frames open
abbrev pub list : ℕ → Ticket
list level = record { kind = kinds.Seq; level = level }

abbrev pub a_some : ℕ → Ticket
a_some level = record { kind = kinds.Some; level = level }

-- what is shown at the top, in a sequence and in a Some
abbrev pub top : Option Ticket
top = None

abbrev pub in_list : ℕ → Option Ticket
in_list level = Some (list level)

abbrev pub in_some : ℕ → Option Ticket
in_some level = Some (a_some level)

abbrev pub int : ℕ → Value
int n = an_integer i32 (pos n)

-- one value at the top
abbrev pub alone : Value → List Request
alone v = put top v ∷ []

-- a sequence of 1 and 2
abbrev pub one_and_two : List Request
one_and_two = start top (seq (Some 2)) ∷ put (in_list 1) (int 1) ∷ put (in_list 1) (int 2) ∷ end (list 1) ∷ []

-- a sequence that announces this length and has no element
abbrev pub no_elements : Option ℕ → List Request
no_elements len = start top (seq len) ∷ end (list 1) ∷ []

-- a sequence that announces no element and has one
abbrev pub seven_unannounced : List Request
seven_unannounced = start top (seq (Some 0)) ∷ put (in_list 1) (int 7) ∷ end (list 1) ∷ []

-- a value in two Somes
abbrev pub some_some : Value → List Request
some_some v = start top some ∷ start (in_some 1) some ∷ put (in_some 2) v ∷ end (a_some 2) ∷ end (a_some 1) ∷ []

abbrev pub text_of_run : Run → List ℕ
text_of_run run = document_text run

-- every request of a run was accepted
abbrev pub AllAccepted : Run → Type 0
AllAccepted run = accepted run ≡ map call_of run.requests

module _ (table : Table) (lawful : Lawful table.starts table.continues table.shown) where
  -- the run of requests, given in the order in which they are made, on a sink with this space
  abbrev pub run_of : (space : ℕ) → Settings → (requests : List Request) → AllByRecursion Fits (reverse requests) → Run
  run_of space settings requests fit = record {
    table = table;
    lawful = lawful;
    settings = settings;
    held = [];
    space = space;
    requests = reverse requests;
    fit = fit;
  }

  -- in this space the requests are accepted, and finish after them, and this is the text
  pub record WritesIn (space : ℕ) (settings : Settings) (requests : List Request) (text : String) : Type 0 where
    pub fit : AllByRecursion Fits (reverse requests)
    pub all_accepted : AllAccepted (run_of space settings requests fit)
    pub finishes : Finishes (run_of space settings requests fit)
    pub written : text_of_run (run_of space settings requests fit) ≡ codes text

  -- in this space the requests are accepted, and one more is refused, by this number
  pub record RefusesIn (space : ℕ) (settings : Settings) (requests : List Request) (request : Request) (why : Refusal) (n : ℕ) : Type 0 where
    pub fit : AllByRecursion Fits (reverse requests)
    pub all_accepted : AllAccepted (run_of space settings requests fit)
    pub refused : refusal (reached (run_of space settings requests fit)) request ≡ Some why
    pub numbered : number why ≡ n

module _ (table : Table) (lawful : Lawful table.starts table.continues table.shown) (space : ℕ) where
  -- the same, in the space that most of the examples have
  abbrev pub Writes : Settings → List Request → String → Type 0
  Writes settings requests text = WritesIn table lawful space settings requests text

  abbrev pub Refuses : Settings → List Request → Request → Refusal → ℕ → Type 0
  Refuses settings requests request why n = RefusesIn table lawful space settings requests request why n

  -- a name, as a unit variant without a configuration and as a unit struct with names on
  abbrev pub Names : (name text : String) → Type 0
  Names name text =
      Writes bare (alone (unit_variant (codes "E") (codes name))) text
      × Writes with_names (alone (unit_struct (codes name))) text

  pub record WorkedDocuments : Type 0 where
    -- the elements of a sequence stand on lines of their own by default, past the depth limit on one line, and without a configuration with no blank
    pub on_lines : Writes default one_and_two "[\n    1,\n    2,\n]"
    pub on_one_line : Writes at_no_depth one_and_two "[1, 2]"
    pub without_blanks : Writes bare one_and_two "[1,2]"
    -- behind the opening bracket stands a new line, but for an announced length of 0, whatever elements follow
    pub told_empty : Writes default (no_elements (Some 0)) "[]"
    pub empty_untold : Writes default (no_elements None) "[\n]"
    pub told_empty_with_seven : Writes default seven_unannounced "[    7,\n]"
    -- under `IMPLICIT_SOME` the Somes are written around None alone
    pub some_some_none : Writes implying_some (some_some none) "Some(Some(None))"
    pub some_some_five : Writes implying_some (some_some (int 5)) "5"
    -- a recursion limit of 1 refuses the fourth opening of `[[],[[]]]`, since an end gives back what its opening took, and the third of `[[[]],[]]`
    pub fourth_opening :
        Refuses limited_to_one
        (start top (seq (Some 2)) ∷ start (in_list 1) (seq (Some 0)) ∷ end (list 2) ∷ start (in_list 1) (seq (Some 1)) ∷ [])
        (start (in_list 2) (seq (Some 0))) ExceededRecursionLimit 16
    pub third_opening :
        Refuses limited_to_one
        (start top (seq (Some 2)) ∷ start (in_list 1) (seq (Some 1)) ∷ [])
        (start (in_list 2) (seq (Some 0))) ExceededRecursionLimit 16
    -- a raw text has one hash more on each side than any run of hashes inside
    pub raw_text : Writes unescaped (alone (a_str (codes "a\"#b"))) "r##\"a\"#b\"##"
    -- a reserved word, and a word that a bare name cannot be, stand behind r#; an underscore is a bare name
    pub reserved_name : Names "Some" "r#Some"
    pub digit_first : Names "9x" "r#9x"
    pub hyphen_inside : Names "a-b" "r#a-b"
    pub underscore : Names "_" "_"
    -- four bytes fit a space of four and not of three
    pub just_fits : WritesIn table lawful 4 bare (alone (a_bool true)) "true"
    pub one_byte_short : RefusesIn table lawful 3 bare [] (put top (a_bool true)) NoSpace 19

-- the documents come out so with every table of characters, each on a sink with this space, or with the one that it names
abbrev pub DocumentsComeOut : (space : ℕ) → Type 0
DocumentsComeOut space =
    (table : Table) (lawful : Lawful table.starts table.continues table.shown) → WorkedDocuments table lawful space
