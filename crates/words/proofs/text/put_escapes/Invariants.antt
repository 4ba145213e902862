use Rattle.std.proofs.Common.{Bool, length}
use Rattle.chars.specs.Texts.{characters, text_bytes}
use Rattle.output.specs.Puts.{Puts}
use Rattle.words.specs.Escapes.{escapes}
use Rattle.words.proofs.text.put_escapes.Given as goal

-- whoever puts the escapes of the rest has put those of the text
abbrev pub invariant-loop-after : goal.invariant-loop-after
invariant-loop-after g l =
    (r : Bool) (b : g.row.O.Denot)
    → Puts g.O.Output.room g.O.Output.took l.out (escapes (g.T.CharTable.shown l.table) (characters l.rest)) r b
    → Puts g.O.Output.room g.O.Output.took l.initial.out (escapes (g.T.CharTable.shown l.table) (characters l.text)) r b

abbrev pub decreases-loop-after : goal.decreases-loop-after
decreases-loop-after g l = length (text_bytes l.rest)
