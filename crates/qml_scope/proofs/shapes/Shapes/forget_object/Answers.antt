use Rattle.std.proofs.Common.{◌∙◌, ap, [], None, if◌then◌else◌}
use Rattle.qml_scope.specs.Shapes.{Stored, same_object, types_among}
use Rattle.qml_scope.proofs.ShapeLemmas.{types_updated}
use Rattle.qml_scope.proofs.shapes.Shapes.forget_object.Goals as goal

pub returns : goal.returns
returns c = (
  ap (λ (k : Stored). k.known.instances) c.self.view_is,
  λ p. types_updated c.self.inside.told.entries c.swap_remove.new.self.entries c.args.o None c.swap_remove.ensures.updates.0 p ∙ ap (λ (k : Stored). if same_object c.args.o p then [] else types_among k.known.told p) c.self.view_is,
)
