use Rattle.std.proofs.Common.{◌≡◌, drop}
use Rattle.qml_scope.specs.Shapes.{has_delegate}
use Rattle.qml_scope.proofs.instances.has_delegate.Given as goal

abbrev pub invariant-loop-shape : goal.invariant-loop-shape
invariant-loop-shape l = has_delegate l.c (drop l.shape-index l.shapes) ≡ has_delegate l.c l.shapes
