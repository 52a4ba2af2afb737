use Rattle.std.proofs.Common.{◌∙◌, ap, sym, List, ◌∷◌}
use Rattle.qml_syntax.specs.Tree.{whole_body, no_stmts}
use Rattle.qml_syntax.specs.declared.node.Node.{Node}
use Rattle.qml_syntax.specs.declared.node.Node.TheVariants.{Body, Mark}
use Rattle.dispatch_tests.proofs.listing.empty_body.Goals as goal

pub new-requires : goal.new-requires
new-requires c =
    (whole_body no_stmts, sym (c.in_ok-push-2.ensures.added ∙ ap (λ (ns : List Node). Body ∷ ns) (c.in_ok-push.ensures.added ∙ ap (λ (ns : List Node). Mark ∷ ns) c.new-nodes.ensures)))
