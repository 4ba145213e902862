use Rattle.std.proofs.Common.{sym, ◌∙◌, arith}
use Rattle.std.proofs.lemmas.Bool.Decides.{nat_tests}
use Rattle.inputs.proofs.Numbers.{pairs_of, odd_left, no_pair, pair_more, pairs_all}
use Rattle.inputs.proofs.hex.hex_bytes.Goals as goal

pub returns-then-not-is_empty : goal.returns-then-not-is_empty
returns-then-not-is_empty c = odd_left c.args.digits.now (grind (arith, nat_tests, c.as_chunks.ensures.back_len, c.if-not-is_empty.ensures))

pub returns-in_default : goal.returns-in_default
returns-in_default c =
    let s = c.args.digits.now in
    sym (no_pair _ _ _ c.loop-high-test.true (sym c.byte_of.ensures ∙ c.in_default.is)) ∙ c.loop-high.invariant ∙ pairs_of s _ _ c.as_chunks.ensures.front c.as_chunks.ensures.back_len c.if-not-is_empty.ensures

pub loop-high-preserved : goal.loop-high-preserved
loop-high-preserved c =
    rw c.in_ok-push.ensures.items (pair_more _ _ _ c.loop-high-test.true c.in-Some.byte (sym c.byte_of.ensures ∙ c.in-Some.is) ∙ c.loop-high.invariant)

pub returns : goal.returns
returns c = sym (pairs_all _ _ _ c.loop-high-test.false) ∙ c.loop-high.invariant ∙ pairs_of c.args.digits.now _ _ c.as_chunks.ensures.front c.as_chunks.ensures.back_len c.if-not-is_empty.ensures
