-- Character tables: which characters a name may begin with and go on with (XID_Start and XID_Continue of UAX #31), and which
-- stand for themselves in an escaped text. A table is any three sets that keep the laws below. Assumes nothing.
use Rattle.std.specs.Prelude.{◌≡◌, ℕ, ◌<◌, Bool, true, false, ◌||◌, ◌==◌}
use Rattle.chars.specs.Blanks.{blank}
use Rattle.chars.specs.Utf8.{within}

-- A to Z and a to z
abbrev pub letter : ℕ → Bool
letter c = within 0x41 0x5A c || within 0x61 0x7A c

abbrev pub digit : ℕ → Bool
digit c = within 0x30 0x39 c

-- letters, digits and the underscore
abbrev pub word : ℕ → Bool
word c = letter c || digit c || c == 0x5F

-- space to tilde
abbrev pub printable : ℕ → Bool
printable c = within 0x20 0x7E c

-- The laws of every table
pub record Lawful (starts continues shown : ℕ → Bool) : Type 0 where
  pub start_continues : (c : ℕ) → starts c ≡ true → continues c ≡ true
  pub ascii_starts : (c : ℕ) → c < 0x80 → starts c ≡ letter c
  pub ascii_continues : (c : ℕ) → c < 0x80 → continues c ≡ word c
  pub ascii_shown : (c : ℕ) → c < 0x80 → shown c ≡ printable c
  pub no_blank_continues : (c : ℕ) → blank c ≡ true → continues c ≡ false
