use Rattle.std.proofs.Common.{[], ◌∷◌, sym, refl, ap, ◌∙◌, subst}
use Rattle.std.proofs.lemmas.Bool.Decides.{Decides-eqb}
use Rattle.std.proofs.lemmas.Slice.Eq.{strip_suffix_is}
use Rattle.inputs.specs.Lines.{CR, one_line, Cut, at_end}
use Rattle.inputs.proofs.Cuts.{one_line_before, cut_at_lf}
use Rattle.inputs.proofs.lines.split_line.Goals as goal

pub returns-in-Some : goal.returns-in-Some
returns-in-Some c =
    let found = c.in-Some.ensures.some in
    subst (λ line. Cut c.args.bytes.now line.now c.in-Some.after.now) (sym c.unwrap_or.ensures)
    (cut_at_lf c.args.bytes.now c.in-Some.after.now c.in-Some.line c.strip_suffix.result found.2 (ap one_line found.0 ∙ one_line_before c.args.bytes.now)
    (strip_suffix_is Decides-eqb c.in-Some.line.now (CR ∷ []) c.strip_suffix.result c.strip_suffix.ensures.cases))

pub returns-in-None : goal.returns-in-None
returns-in-None c =
    let e = c.in-None.ensures.none.0 in
    at_end (ap one_line e ∙ one_line_before c.args.bytes.now) refl refl
