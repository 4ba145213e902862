-- Lines: how bytes are cut into a first line, without its end, and the rest.
-- A line ends at LF, or at CR and LF; the last line may end with the bytes. Assumes nothing.
use Rattle.std.specs.Prelude.{◌≡◌, ℕ, ◌<◌, Bool, true, false, not, ◌&&◌, List, [], ◌∷◌, ◌++◌, length, Option, MatchOption, ◌==◌}
use Rattle.std.specs.Borrow.{Bor}

abbrev pub LF : ℕ
LF = 0x0A

abbrev pub CR : ℕ
CR = 0x0D

-- no line feed stands in the list
abbrev pub one_line : List ℕ → Bool
one_line [] = true
one_line (c ∷ s) = not (c == LF) && one_line s

abbrev pub ends_in_cr : List ℕ → Bool
ends_in_cr [] = false
ends_in_cr (c ∷ []) = c == CR
ends_in_cr (c ∷ d ∷ s) = ends_in_cr (d ∷ s)

pub data Cut (s line rest : List ℕ) : Type 0 where
  at_lf : one_line line ≡ true → ends_in_cr line ≡ false → s ≡ line ++ LF ∷ rest → Cut s line rest
  at_cr_lf : one_line line ≡ true → s ≡ line ++ CR ∷ LF ∷ rest → Cut s line rest
  at_end : one_line line ≡ true → s ≡ line → rest ≡ [] → Cut s line rest

-- the lines that were read of some bytes, the last one first, and what is left
pub data LinesRead (s : List ℕ) : List (List ℕ) → List ℕ → Type 0 where
  no_line : LinesRead s [] s
  next_line : {lines : List (List ℕ)} {left line rest : List ℕ} → LinesRead s lines left → 0 < length left → Cut left line rest → LinesRead s (line ∷ lines) rest

-- one line more was given of these bytes and the rest is left, or there was none left to give
abbrev pub GivesLine : List ℕ → Option (Bor (List ℕ)) → List ℕ → Type 0
GivesLine s given rest = MatchOption given ((s ≡ []) × (rest ≡ [])) (λ line. (0 < length s) × Cut s line.now rest)
