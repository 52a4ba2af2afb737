use Rattle.std.proofs.Common.{◌≡◌, ◌+◌, option_copied}
use Rattle.qml_scope.specs.Shapes.{is_component, outwards}
use Rattle.qml_scope.proofs.resolving.outwards.Given as goal

abbrev pub invariant-outwards : goal.invariant-outwards
invariant-outwards l = outwards (l.left + 1) l.shapes.known.instances (is_component l.shapes.known.told) (option_copied l.at) l.scope l.name ≡ outwards (l.initial.left + 1) l.shapes.known.instances (is_component l.shapes.known.told) (option_copied l.initial.at) l.initial.scope l.name

abbrev pub decreases-outwards : goal.decreases-outwards
decreases-outwards l = l.left
