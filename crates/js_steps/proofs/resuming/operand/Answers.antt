use Rattle.std.proofs.Common.{◌≡◌, Some, None}
use Rattle.js_locals.specs.Laid.{laid, link_op}
use Rattle.js_locals.proofs.LaidLemmas.{link_operand, own_operand}
use Rattle.js_steps.proofs.resuming.operand.Goals as goal

pub returns-in-Some-first_part : goal.returns-in-Some-first_part
returns-in-Some-first_part c =
    let h : Some c.in-Some-link_operator.op ≡ link_op c.in-Some.node.now = cc in
    link_operand (laid c.args.tree.now) c.in-Some.node.now c.args.at c.args.part c.in-Some-first_part.inside c.in-Some-link_operator.op c.in-Some.ensures h c.in-Some-first_part.ensures

pub returns-in_ok-op-in-None : goal.returns-in_ok-op-in-None
returns-in_ok-op-in-None c =
    let h : None ≡ link_op c.in-Some.node.now = cc in
    own_operand (laid c.args.tree.now) c.in-Some.node.now c.args.at c.args.part c.in_ok-op-in-None.op c.in-Some.ensures h c.in_ok-op-in-None.ensures
