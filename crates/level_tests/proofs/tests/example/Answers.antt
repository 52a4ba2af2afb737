use Rattle.std.proofs.Common.{true, ◌∷◌, ◌∙◌, ap, sym}
use Rattle.qml_syntax.specs.declared.node.Node.TheVariants as node
use Rattle.qml_syntax.specs.Tree.{choose, no_choices, whole_expr}
use Rattle.qml_syntax.specs.Listed.{listed}
use Rattle.level_tests.specs.Example.{called, negated, keyed}
use Rattle.level_tests.proofs.tests.example.Goals as goal

pub returns : goal.returns
returns c = (whole_expr (choose called negated no_choices keyed), sym (c.in_ok-push-2.ensures.added ∙ ap (λ z. node.Choose ∷ z) (c.in_ok-push_keyed.ensures ∙ ap (λ z. listed keyed z) (c.in_ok-push.ensures.added ∙ ap (λ z. node.Choice true ∷ z) (c.in_ok-push_negated.ensures ∙ ap (λ z. listed negated z) (c.in_ok-push_called.ensures ∙ ap (λ z. listed called z) c.new-nodes.ensures))))))
