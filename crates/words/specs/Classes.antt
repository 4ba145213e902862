-- Classes of characters: those that stand for themselves in an escaped text, those that go on in a bare name, and those of a name behind `r#`.
-- `shown` and `continues` are the table's sets. Assumes nothing.
use Rattle.std.specs.Prelude.{ℕ, Bool, not, ◌&&◌, ◌||◌, List, ◌==◌}
use Rattle.std.specs.List.{list_all}
use Rattle.chars.specs.Utf8.{utf8, decoded}
use Rattle.words.specs.declared.class.Class.{Class}
use Rattle.words.specs.declared.class.Class.TheVariants.{Plain, Continue, Raw}

-- every one of a list is in the set
abbrev pub all : (ℕ → Bool) → List ℕ → Bool
all = list_all

-- both quotes and the backslash
abbrev pub quoting : ℕ → Bool
quoting c = c == 0x22 || c == 0x27 || c == 0x5C

-- what an escaped text has as it is; no table shows U+0000, tab, LF or CR, which have short escapes too
abbrev pub plain_char : (ℕ → Bool) → ℕ → Bool
plain_char shown c = shown c && not (quoting c)

-- what a name behind `r#` is made of: continue characters, `.`, `+` and `-`
abbrev pub raw_char : (ℕ → Bool) → ℕ → Bool
raw_char continues c = continues c || c == 0x2E || c == 0x2B || c == 0x2D

abbrev pub in_class : (continues shown : ℕ → Bool) → Class → ℕ → Bool
in_class continues shown Plain c = plain_char shown c
in_class continues shown Continue c = continues c
in_class continues shown Raw c = raw_char continues c

-- the bytes are UTF-8, and each of their characters is in the set
abbrev pub text_of : (ℕ → Bool) → List ℕ → Bool
text_of p s = utf8 s && all p (decoded s)
