use Rattle.std.proofs.Common.{rules}
use Rattle.words.proofs.Writing.{exits}
use Rattle.literals.proofs.Suffixes.{suffix_chosen}
use Rattle.literals.proofs.float.serialize_float.Goals as goal

pub returns-in_err-put_float : goal.returns-in_err-put_float
returns-in_err-put_float g c =
    let suffix = suffix_chosen (λ s. s.now) c.args.number_suffixes c.suffix.result c.then_some-suffix.ensures c.suffix.ensures in
    let error = exits _ _ c.from_residual-in_err-put_float.ensures.1 in
    search rules

pub returns : goal.returns
returns g c =
    let suffix = suffix_chosen (λ s. s.now) c.args.number_suffixes c.suffix.result c.then_some-suffix.ensures c.suffix.ensures in
    search rules
