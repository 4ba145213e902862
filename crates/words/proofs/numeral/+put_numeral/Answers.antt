use Rattle.std.proofs.Common.{[], ◌∷◌, sym, ap, ◌∙◌}
use Rattle.output.proofs.Pieces.{puts_as, puts_then, puts_stop, puts_exit}
use Rattle.words.proofs.Numbers.{numeral_one, numeral_step}
use Rattle.words.proofs.numeral.+put_numeral.Goals as goal

pub returns-then-n-base : goal.returns-then-n-base
returns-then-n-base g t c =
    puts_as (ap (λ d. d ∷ []) c.digit.ensures ∙ sym (numeral_one c.args.base c.args.n c.requires.base_low c.if-n-base.true)) c.put.ensures.puts

pub returns-in_err-put_numeral : goal.returns-in_err-put_numeral
returns-in_err-put_numeral g t c =
    puts_as (sym (numeral_step c.args.base c.args.n c.requires.base_low c.if-n-base.false))
    (puts_exit c.from_residual.result c.from_residual.ensures.0 (puts_stop _ c.in_err-put_numeral.ensures))

pub returns : goal.returns
returns g t c =
    puts_as (sym (numeral_step c.args.base c.args.n c.requires.base_low c.if-n-base.false))
    (puts_then g.met.O.Output.adds c.in_ok-put_numeral.ensures (puts_as (ap (λ d. d ∷ []) c.digit-2.ensures) c.put-2.ensures.puts))
