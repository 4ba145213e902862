use Rattle.std.proofs.Common.{◌≤◌}
use Rattle.words.proofs.Hashes.{Counted}
use Rattle.words.proofs.raw.count_hashes.Given as goal

abbrev pub invariant-loop-b : goal.invariant-loop-b
invariant-loop-b l = (l.run ≤ l.b-index) × (l.run ≤ l.longest) × Counted l.text l.b-index l.run l.longest
