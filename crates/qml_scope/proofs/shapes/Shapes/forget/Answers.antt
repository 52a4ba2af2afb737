use Rattle.std.proofs.Common.{◌∙◌, ap, rules}
use Rattle.std.proofs.lemmas.Fn.{filter_same}
use Rattle.qml_scope.specs.Shapes.{Stored, instances_but}
use Rattle.qml_scope.proofs.ShapeLemmas.{instances_filter}
use Rattle.qml_scope.proofs.shapes.Shapes.forget.Goals as goal

pub returns-clause-instances : goal.returns-clause-instances
returns-clause-instances c =
    filter_same _ _ _ (λ x b f' k. search rules) _ _ c.retain.ensures.filtered ∙ instances_filter c.args.root c.self.inside.instances.items ∙ ap (λ (k : Stored). instances_but c.args.root k.known.instances) c.self.view_is
