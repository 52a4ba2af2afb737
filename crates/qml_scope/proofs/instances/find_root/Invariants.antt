use Rattle.std.proofs.Common.{◌≡◌, drop}
use Rattle.qml_scope.specs.Shapes.{instance_at}
use Rattle.qml_scope.proofs.instances.find_root.Given as goal

abbrev pub invariant-loop-shape : goal.invariant-loop-shape
invariant-loop-shape l = instance_at (drop l.shape-index l.shapes) l.unit l.root ≡ instance_at l.shapes l.unit l.root
