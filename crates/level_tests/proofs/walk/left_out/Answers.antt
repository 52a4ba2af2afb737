use Rattle.std.proofs.Common.{arith}
use Rattle.level_tests.proofs.StepLemmas.{some_left, stepped}
use Rattle.level_tests.proofs.walk.left_out.Goals as goal

pub overflow_sub-left : goal.overflow_sub-left
overflow_sub-left c = some_left c.args.tree.now c.pop.new.self.items c.loop-at.waiting.items c.in-Some.at c.loop-at.left c.in-Some.ensures.items (c.loop-at.invariant.0)

pub loop-at-smaller : goal.loop-at-smaller
loop-at-smaller c = omega (arith, some_left c.args.tree.now c.pop.new.self.items c.loop-at.waiting.items c.in-Some.at c.loop-at.left c.in-Some.ensures.items (c.loop-at.invariant.0))

pub loop-at-preserved : goal.loop-at-preserved
loop-at-preserved c = stepped c.args.tree.now c.pop.new.self.items c.loop-at.waiting.items c.open.new.parts.items c.in-Some.at c.loop-at.left (λ node. node.now) c.in_ok-open.field-0 c.in-Some.ensures.items (c.loop-at.invariant.0) (c.loop-at.invariant.1) c.in_ok-open.ensures.opened
