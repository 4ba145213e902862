use Rattle.std.proofs.Common.{◌≡◌, rules}
use Rattle.words.proofs.Measured.{refused_whole}
use Rattle.words.proofs.Writing.{exits}
use Rattle.batch_names.proofs.forms.write_forms.Goals as goal

pub returns-in_err-put_forms : goal.returns-in_err-put_forms
returns-in_err-put_forms g c =
    let measured : c.new-gauge.result.room ≡ g.S.Sink.space c.args.sink.now = search rules in
    refused_whole g.met.S.Sink.steady measured c.in_err-put_forms.ensures (exits _ _ c.from_residual.ensures.1)
