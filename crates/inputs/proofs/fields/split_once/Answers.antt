use Rattle.std.proofs.Common.{◌≡◌, eqb, sym, ◌∙◌, rules}
use Rattle.std.specs.List.{position}
use Rattle.std.proofs.lemmas.Iterator.{YieldsList-from_slice}
use Rattle.std.proofs.lemmas.Iterator.Search.{position_from_yields_List}
use borrow.Author.Tests.{tests}
use Rattle.inputs.proofs.Parting.{found, not_found}
use Rattle.inputs.proofs.fields.split_once.Goals as goal

pub returns-in_err-place-clause-none : goal.returns-in_err-place-clause-none
returns-in_err-place-clause-none c =
    let e : c.position.result ≡ position (λ b. eqb b c.args.sep) c.args.bytes.now =
    position_from_yields_List (λ b. eqb b c.args.sep) _ _ c.position.result c.position.ensures.ran (YieldsList-from_slice c.args.bytes.now cc) (λ x b q k. search (rules, tests)) in
    let h = not_found c.args.sep c.args.bytes.now (sym e ∙ (search rules)) in
    search rules

pub returns-clause-some : goal.returns-clause-some
returns-clause-some c =
    let e : c.position.result ≡ position (λ b. eqb b c.args.sep) c.args.bytes.now =
    position_from_yields_List (λ b. eqb b c.args.sep) _ _ c.position.result c.position.ensures.ran (YieldsList-from_slice c.args.bytes.now cc) (λ x b q k. search (rules, tests)) in
    let h = found c.args.sep c.args.bytes.now c.in_ok-place.place (sym e ∙ c.in_ok-place.was) in
    (h.field, h.rest, h.whole)
