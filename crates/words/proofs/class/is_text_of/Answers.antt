use Rattle.std.proofs.Common.{sym, ◌∙◌}
use Rattle.chars.specs.Cursor.{left}
use Rattle.chars.proofs.Decoding.{shorter}
use Rattle.words.specs.Classes.{in_class}
use Rattle.words.proofs.TextOf.{text_of_in, text_of_out, text_of_none, text_of_broken}
use Rattle.words.proofs.class.is_text_of.Goals as goal

pub returns-then-not-holds : goal.returns-then-not-holds
returns-then-not-holds g c =
    let s = rw c.in-Ok-Some.field-0-is at c.in-Ok-Some.ensures in
    let p = in_class (g.T.CharTable.continues c.args.table.now) (g.T.CharTable.shown c.args.table.now) c.args.class in
    sym (text_of_out p (left c.loop-c.cursor) (left c.step.new.self) c.in-Ok-Some.c s.0 s.1 c.if-not-holds.ensures) ∙ c.loop-c.invariant

pub loop-c-smaller : goal.loop-c-smaller
loop-c-smaller g c = let s = rw c.in-Ok-Some.field-0-is at c.in-Ok-Some.ensures in shorter (left c.loop-c.cursor) (left c.step.new.self) c.in-Ok-Some.c s.0 s.1

pub loop-c-preserved : goal.loop-c-preserved
loop-c-preserved g c =
    let s = rw c.in-Ok-Some.field-0-is at c.in-Ok-Some.ensures in
    let p = in_class (g.T.CharTable.continues c.args.table.now) (g.T.CharTable.shown c.args.table.now) c.args.class in
    sym (text_of_in p (left c.loop-c.cursor) (left c.step.new.self) c.in-Ok-Some.c s.0 s.1 c.if-not-holds.ensures) ∙ c.loop-c.invariant

pub returns-in-Ok-None : goal.returns-in-Ok-None
returns-in-Ok-None g c =
    let s = rw c.in-Ok-None.field-0-is at c.in-Ok-None.ensures in
    sym (text_of_none _ (left c.loop-c.cursor) s.0) ∙ c.loop-c.invariant

pub returns-in-Err : goal.returns-in-Err
returns-in-Err g c =
    let s = c.in-Err.ensures in
    let p = in_class (g.T.CharTable.continues c.args.table.now) (g.T.CharTable.shown c.args.table.now) c.args.class in
    cc (text_of_broken p (left c.loop-c.cursor) s.1 s.2, c.loop-c.invariant)
