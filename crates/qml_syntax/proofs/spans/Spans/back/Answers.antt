use Rattle.std.proofs.Common.{arith}
use Rattle.qml_syntax.proofs.PositionLemmas.{back_step}
use Rattle.qml_syntax.proofs.spans.Spans.back.Goals as goal

pub loop-preserved : goal.loop-preserved
loop-preserved c = (omega arith, back_step _ _ _ _ _ (omega arith) c.before-start.ensures.parts (c.loop.invariant.1))
