use Rattle.std.specs.Prelude.{reverse}
use Rattle.std.proofs.lemmas.Result.{IfOk-weaker}
use Rattle.qml_syntax.proofs.FoundDocument.{all_found}
use Rattle.qml_syntax.proofs.deep.standing_of.Goals as goal

pub returns : goal.returns
returns c =
    IfOk-weaker c.finish.result _ _
    (λ found e w h. all_found c.loop-node.left.now (reverse c.args.nodes.now) c.loop-node.descent found.items w c.in_default.ensures.cases c.loop-node.invariant e h)
    c.finish.ensures
