use Rattle.std.proofs.Common.{not, sym, ap, ◌∙◌}
use Rattle.std.proofs.lemmas.Bool.{false≢true}
use Rattle.words.specs.Names.{reserved}
use Rattle.words.proofs.Naming.{bare_word}
use Rattle.words.proofs.name.is_bare.Goals.{then-is_first, else-is_first}
use Rattle.words.proofs.name.is_bare.Goals as goal

pub returns-then-is_all_of : goal.returns-then-is_all_of
returns-then-is_all_of g c =
    ap not c.is_reserved.ensures
    ∙ ap (λ s. not (reserved s)) c.as_bytes.ensures
    ∙ elim c.if-is_first.branch [
      | then-is_first w ↦ bare_word _ _ c.args.name c.in-Some.c _ c.in-Some.ensures.value.2 (sym w.if-is_first.ensures) (sym w.is_all_of.ensures ∙ sym w.value-is ∙ c.if-is_all_of.true)
      | else-is_first w ↦ absurd (false≢true (sym w.if-is_first.false ∙ sym w.value-is ∙ c.if-is_all_of.true))
    ]
