use Rattle.std.proofs.Common.{◌≡◌, drop}
use Rattle.qml_types.specs.declared.kind.TypeRef.TheVariants.{Builtin}
use Rattle.qml_types.specs.declared.kind.TypeNo.TheVariants as no
use Rattle.tree_model.specs.Converting.{has_type}
use Rattle.qml_scope.proofs.shapes.has_component.Given as goal

abbrev pub invariant-loop-t : goal.invariant-loop-t
invariant-loop-t l = has_type (drop l.t-index l.types) (Builtin no.Component) ≡ has_type l.types (Builtin no.Component)
