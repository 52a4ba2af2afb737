use Rattle.std.proofs.Common.{◌≡◌, true}
use Rattle.js_locals.specs.Laid.{laid, is_step_node}
use Rattle.js_frames.proofs.BoundLemmas.{goes_further}
use Rattle.js_steps.proofs.stepping.ends_steps.Goals as goal

pub returns-then-is_step : goal.returns-then-is_step
returns-then-is_step c =
    let told = c.is_step.ensures in
    let holds = c.if-is_step.true in
    let b : is_step_node c.in-Some-node_at.node.now ≡ true = cc in
    goes_further (laid c.args.tree.now) c.args.at c.in-Some.next c.in-Some-node_at.node.now c.in-Some.ensures c.in-Some-node_at.ensures b
