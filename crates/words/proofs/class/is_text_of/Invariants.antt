use Rattle.std.proofs.Common.{◌≡◌, length}
use Rattle.chars.specs.Cursor.{left}
use Rattle.words.specs.Classes.{in_class, text_of}
use Rattle.words.proofs.class.is_text_of.Given as goal

-- the rest decides
abbrev pub invariant-loop-c : goal.invariant-loop-c
invariant-loop-c g l =
    text_of (in_class (g.T.CharTable.continues l.table) (g.T.CharTable.shown l.table) l.class) (left l.cursor)
    ≡ text_of (in_class (g.T.CharTable.continues l.table) (g.T.CharTable.shown l.table) l.class) l.text

abbrev pub decreases-loop-c : goal.decreases-loop-c
decreases-loop-c g l = length (left l.cursor)
