use Rattle.std.proofs.Common.{◌≡◌, ◌++◌, List, ℕ, length}
use Rattle.chars.specs.Texts.{characters, text_bytes}
use Rattle.words.specs.Escapes.{escapes}
use Rattle.words.proofs.text.split_plain.Given as goal

-- what has been passed stands for itself
abbrev pub invariant-loop-c : goal.invariant-loop-c
invariant-loop-c g l =
    (plain : List ℕ)
    × (text_bytes l.text ≡ plain ++ text_bytes l.rest)
    × (escapes (g.T.CharTable.shown l.table) (characters l.text) ≡ plain ++ escapes (g.T.CharTable.shown l.table) (characters l.rest))

abbrev pub decreases-loop-c : goal.decreases-loop-c
decreases-loop-c g l = length (text_bytes l.rest)
