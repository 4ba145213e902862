-- The tokens of RON that are runs of characters: blanks, words, numbers and names. `starts` and `continues` are a table's
-- XID_Start and XID_Continue (UAX #31). In each relation s is the text, and r is what is left behind the token. Assumes nothing.
use Rattle.std.specs.Prelude.{◌≡◌, ℕ, Bool, true, false, ◌||◌, List, [], ◌∷◌, ◌++◌, codes, ◌==◌}
use Rattle.chars.specs.Blanks.{blank}
use Rattle.chars.specs.Tables.{letter, digit}
use Rattle.words.specs.Classes.{all, raw_char}
use Rattle.words.specs.Names.{first_char, reserved}

-- the first character is in the set
abbrev pub begins : (ℕ → Bool) → List ℕ → Bool
begins p [] = false
begins p (c ∷ s) = p c

-- s is x and then r: x begins with one of `first` and is the longest run of `next`
pub record Run (first next : ℕ → Bool) (s x r : List ℕ) : Type 0 where
  pub split : s ≡ x ++ r
  pub begun : begins first x ≡ true
  pub only : all next x ≡ true
  pub longest : begins next r ≡ false

-- any number of blanks, and then r
pub record Blanks (s r : List ℕ) : Type 0 where
  pub skipped : List ℕ
  pub split : s ≡ skipped ++ r
  pub only : all blank skipped ≡ true

-- these tokens in turn, any number of blanks before each, and then r
abbrev pub Tokens : List (List ℕ) → List ℕ → List ℕ → Type 0
Tokens [] s r = s ≡ r
Tokens (w ∷ ws) s r = (u : List ℕ) × Blanks s (w ++ u) × Tokens ws u r

-- a number begins with a digit or a minus, and is the longest run of ASCII letters, digits, `.`, `+` and `-`
abbrev pub number_first : ℕ → Bool
number_first c = digit c || c == 0x2D

abbrev pub number_char : ℕ → Bool
number_char c = letter c || digit c || c == 0x2E || c == 0x2B || c == 0x2D

abbrev pub Number : List ℕ → List ℕ → List ℕ → Type 0
Number s x r = Run number_first number_char s x r

-- how a name is written: plain, or behind `r#`
pub data Way : Type 0 where
  plain raw : Way

module _ (starts continues : ℕ → Bool) where
  -- a word begins with an underscore or a start character, and is the longest run of continue characters
  abbrev pub Word : List ℕ → List ℕ → List ℕ → Type 0
  Word s x r = Run (first_char starts) continues s x r

  -- a name is a word that is not reserved, or behind `r#` the longest run, not empty, of raw characters
  pub data Name : Way → List ℕ → List ℕ → List ℕ → Type 0 where
    plain_name : {s x r : List ℕ} → Word s x r → reserved x ≡ false → Name plain s x r
    raw_name : {s s' x r : List ℕ} → s ≡ codes "r#" ++ s' → Run (raw_char continues) (raw_char continues) s' x r → Name raw s x r
