use Rattle.std.proofs.Common.{sym}
use Rattle.std.proofs.lemmas.Bool.Decides.{not_from_Decides}
use Rattle.chars.specs.RangeChecks.{good}
use Rattle.chars.proofs.Checking.{decides_table}
use Rattle.chars.proofs.ranges.Ranges.new.Goals as goal

pub invariant_of-result : goal.invariant_of-result
invariant_of-result c = record { is_table = (decides_table c.args.ranges.now).0 (sym c.if-is_good.ensures) }

pub returns-else-is_good : goal.returns-else-is_good
returns-else-is_good c =
    let rs = c.args.ranges.now in
    not_from_Decides (good rs) (decides_table rs) (sym c.if-is_good.ensures)
