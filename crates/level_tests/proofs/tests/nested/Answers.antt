use Rattle.std.proofs.Common.{◌∷◌, ◌∙◌, ap, sym}
use Rattle.qml_syntax.specs.declared.node.Node.TheVariants as node
use Rattle.qml_syntax.specs.Tree.{number, paren, whole_expr}
use Rattle.level_tests.specs.Example.{here}
use Rattle.level_tests.proofs.tests.nested.Goals as goal

pub loop-init : goal.loop-init
loop-init c = (number c.args.number here, sym (c.in_ok-push.ensures.added ∙ ap (λ z. node.Number c.args.number here ∷ z) c.new-nodes.ensures))

pub loop-preserved : goal.loop-preserved
loop-preserved c = (paren here (c.loop.invariant.0), sym (c.in_ok-push-2.ensures.added ∙ ap (λ z. node.Paren here ∷ z) (sym (c.loop.invariant.1))))

pub returns : goal.returns
returns c = (whole_expr (c.loop.invariant.0), c.loop.invariant.1)
