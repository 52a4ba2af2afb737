use Rattle.std.proofs.Common.{◌≡◌, drop}
use Rattle.qml_scope.specs.Shapes.{name_of_cell}
use Rattle.qml_scope.proofs.instances.cell_name.Given as goal

abbrev pub invariant-loop-shape : goal.invariant-loop-shape
invariant-loop-shape l = name_of_cell l.c (drop l.shape-index l.shapes) ≡ name_of_cell l.c l.shapes
