use Rattle.std.proofs.Common.{◌∙◌, rules}
use Rattle.std.proofs.lemmas.Fn.{filter_same}
use Rattle.qml_scope.proofs.ShapeLemmas.{left_filter}
use Rattle.qml_scope.proofs.shapes.keep_instances.Goals as goal

pub returns : goal.returns
returns c = filter_same _ _ _ (λ x b f' k. search rules) _ _ c.retain.ensures.filtered ∙ left_filter c.args.gone.now c.args.instances.now.items
