use Rattle.std.proofs.Common.{sym, ap, ◌∙◌, arith}
use Rattle.chars.specs.Utf8.{encode}
use Rattle.chars.proofs.Sequences.{encode_one, encode_two, encode_three, encode_four, two_same, three_same, four_same}
use Rattle.chars.proofs.encoding.Encoded.new.Goals as goal

pub returns-then-n-le127 : goal.returns-then-n-le127
returns-then-n-le127 c = sym (encode_one c.from-n.result (omega arith)) ∙ ap encode c.from-n.ensures

pub returns-then-n-le2047 : goal.returns-then-n-le2047
returns-then-n-le2047 c =
    two_same (omega arith) (omega arith)
    ∙ sym (encode_two c.from-n.result (omega arith) (omega arith))
    ∙ ap encode c.from-n.ensures

pub returns-then-n-le65535 : goal.returns-then-n-le65535
returns-then-n-le65535 c =
    three_same (omega arith) (omega arith) (omega arith)
    ∙ sym (encode_three c.from-n.result (omega arith) (omega arith))
    ∙ ap encode c.from-n.ensures

pub returns-else-n-le65535 : goal.returns-else-n-le65535
returns-else-n-le65535 c =
    four_same (omega arith) (omega arith) (omega arith) (omega arith)
    ∙ sym (encode_four c.from-n.result (omega arith))
    ∙ ap encode c.from-n.ensures
