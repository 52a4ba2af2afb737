use Rattle.std.proofs.Common.{◌≡◌, drop}
use Rattle.qml_scope.specs.Shapes.{instance_at}
use Rattle.instance_contents.proofs.ids.find_root.Given as goal

abbrev pub invariant-shapes : goal.invariant-shapes
invariant-shapes l = instance_at (drop l.shape-index l.shapes) l.unit l.root ≡ instance_at l.shapes l.unit l.root
