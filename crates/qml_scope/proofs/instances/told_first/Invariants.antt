use Rattle.std.proofs.Common.{◌≡◌, drop}
use Rattle.qml_scope.specs.Shapes.{told_anywhere}
use Rattle.qml_scope.proofs.instances.told_first.Given as goal

abbrev pub invariant-loop-shape : goal.invariant-loop-shape
invariant-loop-shape l = told_anywhere (drop l.shape-index l.shapes) l.o l.name ≡ told_anywhere l.shapes l.o l.name
