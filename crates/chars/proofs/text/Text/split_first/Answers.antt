use Rattle.std.proofs.Common.{sym, ◌∙◌}
use Rattle.chars.proofs.Decoding.{past_front, utf8_past, decoded_past, shorter, empty_text}
use Rattle.chars.proofs.text.Text.split_first.Goals as goal

pub returns-in_err-c-clause-value : goal.returns-in_err-c-clause-value
returns-in_err-c-clause-value c = rw c.from_residual.ensures (empty_text c.args.self.now.bytes.now c.args.self.now.is_utf8 c.in_err-c.ensures)

pub invariant_of-result : goal.invariant_of-result
invariant_of-result c =
    let f = c.in_ok-c.ensures in
    let past = past_front c.args.self.now.bytes.now _ _ f.1 in
    record { is_utf8 = sym (utf8_past _ _ c.in_ok-c.c f.0 past) ∙ c.args.self.now.is_utf8 }

pub returns-clause-value : goal.returns-clause-value
returns-clause-value c =
    let f = c.in_ok-c.ensures in
    let past = past_front c.args.self.now.bytes.now _ _ f.1 in
    (f.0, past, decoded_past _ _ c.in_ok-c.c f.0 past c.args.self.now.is_utf8)

pub returns-clause-shorter : goal.returns-clause-shorter
returns-clause-shorter c =
    let f = c.in_ok-c.ensures in
    shorter _ _ c.in_ok-c.c f.0 (past_front c.args.self.now.bytes.now _ _ f.1)
