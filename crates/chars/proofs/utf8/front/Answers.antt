use Rattle.std.proofs.Common.{arith, rules}
use Rattle.std.proofs.lemmas.Bool.Decides.{nat_tests}
use Rattle.chars.proofs.Decoding.{front_one, front_two, front_three, front_four, front_made, stuck_front}
use Rattle.chars.proofs.utf8.front.Goals as goal

pub returns-in-len1-up : goal.returns-in-len1-up
returns-in-len1-up c =
    front_made c.args.bytes.now _ _ 1 _ c.spelled.ensures c.from.ensures (front_one c.args.bytes.now (search rules) (grind (arith, nat_tests)))

pub returns-in-len2-up : goal.returns-in-len2-up
returns-in-len2-up c =
    front_made c.args.bytes.now _ _ 2 _ c.spelled-in-len2-up.ensures c.from_two.ensures (front_two c.args.bytes.now (search rules) (search rules))

pub returns-in-len3-up : goal.returns-in-len3-up
returns-in-len3-up c =
    front_made c.args.bytes.now _ _ 3 _ c.spelled-in-len3-up.ensures c.from_three.ensures (front_three c.args.bytes.now (search rules) (search rules))

pub returns-in-len4-up : goal.returns-in-len4-up
returns-in-len4-up c =
    front_made c.args.bytes.now _ _ 4 _ c.spelled-in-len4-up.ensures c.from_four.ensures (front_four c.args.bytes.now (search rules) (search rules))

pub returns-in_default : goal.returns-in_default
returns-in_default c = stuck_front c.args.bytes.now (λ l. search rules, λ l. search rules, λ l. search rules, λ l. search rules)

pub returns-in_default-2 : goal.returns-in_default-2
returns-in_default-2 c = stuck_front c.args.bytes.now (λ l. grind (arith, nat_tests), λ l. search rules, λ l. search rules, λ l. search rules)

pub returns-in_default-3 : goal.returns-in_default-3
returns-in_default-3 c = stuck_front c.args.bytes.now (λ l. grind (arith, nat_tests), λ l. search rules, λ l. search rules, λ l. search rules)

pub returns-in_default-4 : goal.returns-in_default-4
returns-in_default-4 c = stuck_front c.args.bytes.now (λ l. grind (arith, nat_tests), λ l. search rules, λ l. search rules, λ l. search rules)

pub returns-in_default-5 : goal.returns-in_default-5
returns-in_default-5 c = stuck_front c.args.bytes.now (λ l. grind (arith, nat_tests), λ l. search rules, λ l. search rules, λ l. search rules)
