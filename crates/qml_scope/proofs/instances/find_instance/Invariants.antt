use Rattle.std.proofs.Common.{◌≡◌, drop}
use Rattle.qml_scope.specs.Shapes.{instance_of}
use Rattle.qml_scope.proofs.instances.find_instance.Given as goal

abbrev pub invariant-loop-shape : goal.invariant-loop-shape
invariant-loop-shape l = instance_of (drop l.shape-index l.shapes) l.unit l.o ≡ instance_of l.shapes l.unit l.o
