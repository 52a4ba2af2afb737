use Rattle.std.proofs.Common.{arith}
use Rattle.qml_text.proofs.PartsLemmas.{cut_more, cut_last, split_is}
use Rattle.qml_text.proofs.text.Text.split.Goals as goal

pub overflow_add-from : goal.overflow_add-from
overflow_add-from c = omega (arith, c.in-Some.ensures.stands.0)

pub loop-at-preserved : goal.loop-at-preserved
loop-at-preserved c =
    let first = c.in-Some.ensures in
    (rw (c.len.ensures, c.in_ok-push.ensures.items, c.in_ok-sub.ensures) (cut_more c.args.by.now c.args.self.now c.loop-at.parts.items c.loop-at.from c.in-Some.at first c.loop-at.invariant.0), omega (arith, first.stands.0), omega arith)

pub returns : goal.returns
returns c =
    let i = c.loop-at.invariant in
    rw (c.in_ok-push-2.ensures.items, c.in_ok-sub-2.ensures, c.len-len.ensures) (split_is c.args.by.now c.args.self.now _ i.2 (cut_last c.args.by.now c.args.self.now c.loop-at.parts.items c.loop-at.from c.in_default.ensures i.0))
