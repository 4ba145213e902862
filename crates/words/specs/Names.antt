-- Names: RON identifiers, bare or behind `r#`. `starts` and `continues` are the table's XID_Start and XID_Continue (UAX #31).
-- Assumes nothing.
use Rattle.std.specs.Prelude.{ℕ, suc, Bool, true, false, cond, not, ◌&&◌, ◌||◌, List, [], ◌∷◌, ◌++◌, length, codes, ◌==◌, slice_index}
use Rattle.chars.specs.Utf8.{encodes}
use Rattle.words.specs.Classes.{all, raw_char}
use Rattle.words.specs.declared.name.Form.{Form}
use Rattle.words.specs.declared.name.Form.TheVariants.{Bare, Raw}

-- from the place i on, a list has the characters of a word
abbrev pub agrees : ℕ → List ℕ → List ℕ → Bool
agrees i [] cs = true
agrees i (d ∷ w) cs = slice_index cs i == d && agrees (suc i) w cs

-- a list is a word: as long, and the same at each place
abbrev pub same : List ℕ → List ℕ → Bool
same cs w = length cs == length w && agrees 0 w cs

abbrev pub one_of : List (List ℕ) → List ℕ → Bool
one_of [] cs = false
one_of (w ∷ ws) cs = same cs w || one_of ws cs

-- the words that mean something else than a name
abbrev pub reserved_words : List (List ℕ)
reserved_words =
    codes "true" ∷ codes "false" ∷ codes "Some" ∷ codes "None"
    ∷ codes "inf" ∷ codes "inff32" ∷ codes "inff64"
    ∷ codes "NaN" ∷ codes "NaNf32" ∷ codes "NaNf64" ∷ []

abbrev pub reserved : List ℕ → Bool
reserved cs = one_of reserved_words cs

-- a name is not empty, and of raw characters
abbrev pub name : (ℕ → Bool) → List ℕ → Bool
name continues [] = false
name continues (c ∷ cs) = all (raw_char continues) (c ∷ cs)

-- the names that stand bare begin with an underscore or a start character, go on with continue characters, and are not reserved
abbrev pub first_char : (ℕ → Bool) → ℕ → Bool
first_char starts c = c == 0x5F || starts c

abbrev pub bare : (starts continues : ℕ → Bool) → List ℕ → Bool
bare starts continues [] = false
bare starts continues (c ∷ cs) = first_char starts c && all continues cs && not (reserved (c ∷ cs))

abbrev pub form : (starts continues : ℕ → Bool) → List ℕ → Form
form starts continues cs = cond (bare starts continues cs) Bare Raw

-- a name's bytes, bare or behind `r#`
abbrev pub formed : Form → List ℕ → List ℕ
formed Bare x = x
formed Raw x = codes "r#" ++ x

abbrev pub identifier : (starts continues : ℕ → Bool) → List ℕ → List ℕ
identifier starts continues cs = formed (form starts continues cs) (encodes cs)
