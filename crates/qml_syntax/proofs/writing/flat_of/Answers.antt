use Rattle.std.specs.Prelude.{reverse}
use Rattle.std.proofs.lemmas.Result.{IfOk-weaker}
use Rattle.qml_syntax.proofs.WrittenDocument.{all_written}
use Rattle.qml_syntax.proofs.writing.flat_of.Goals as goal

pub returns : goal.returns
returns c =
    IfOk-weaker c.finish.result _ _
    (λ kinds e w h. all_written c.loop-node.left.now (reverse c.args.nodes.now) c.loop-node.writing kinds.items w c.in_default.ensures.cases c.loop-node.invariant e h)
    c.finish.ensures
