use Rattle.std.proofs.Common.{◌∙◌, ap, Some, if◌then◌else◌}
use Rattle.qml_scope.specs.Shapes.{Stored, same_object, types_among}
use Rattle.qml_scope.proofs.ShapeLemmas.{types_updated}
use Rattle.qml_scope.proofs.shapes.Shapes.tell.Goals as goal

pub returns-in-Ok-clause-ok : goal.returns-in-Ok-clause-ok
returns-in-Ok-clause-ok c = (
  ap (λ (k : Stored). k.known.instances) c.self.view_is,
  λ p. types_updated c.self.inside.told.entries c.insert.new.self.entries c.args.o (Some c.args.types) c.in-Ok.ensures.updates.0 p ∙ ap (λ (k : Stored). if same_object c.args.o p then c.args.types.items else types_among k.known.told p) c.self.view_is,
)
