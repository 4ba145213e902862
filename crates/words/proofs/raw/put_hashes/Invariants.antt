use Rattle.std.proofs.Common.{◌-◌, Bool, replicate}
use Rattle.output.specs.Puts.{Puts}
use Rattle.words.specs.RawText.{hash}
use Rattle.words.proofs.raw.put_hashes.Given as goal

-- whoever puts the hashes that are left has put all
abbrev pub invariant-loop : goal.invariant-loop
invariant-loop g l =
    (r : Bool) (b : g.row.O.Denot)
    → Puts g.O.Output.room g.O.Output.took l.out (replicate (l.n - l.counter) hash) r b
    → Puts g.O.Output.room g.O.Output.took l.initial.out (replicate l.n hash) r b
