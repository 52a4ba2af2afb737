use Rattle.std.proofs.Common.{◌∙◌, ap}
use Rattle.qml_scope.specs.Shapes.{Stored, types_among}
use Rattle.qml_scope.proofs.ShapeLemmas.{types_or, types_alike}
use Rattle.qml_scope.proofs.shapes.Shapes.types_told.Goals as goal

pub returns-in-Some : goal.returns-in-Some
returns-in-Some c = c.as_slice.ensures.value ∙ ap types_or c.in-Some.ensures.value ∙ types_alike c.self.inside.told.entries c.args.o ∙ ap (λ (k : Stored). types_among k.known.told c.args.o) c.self.view_is

pub returns-in-None : goal.returns-in-None
returns-in-None c = ap types_or c.in-None.ensures.value ∙ types_alike c.self.inside.told.entries c.args.o ∙ ap (λ (k : Stored). types_among k.known.told c.args.o) c.self.view_is
