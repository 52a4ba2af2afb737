use Rattle.std.proofs.Common.{◌≡◌, drop}
use Rattle.qml_scope.specs.Shapes.{instance_at}
use Rattle.qml_scope.specs.Seats.{holders}
use Rattle.qml_scope.proofs.finding.root_by_seats.Given as goal

abbrev pub invariant-loop-k : goal.invariant-loop-k
invariant-loop-k l = instance_at (drop l.k (holders l.shapes l.root)) l.unit l.root ≡ instance_at l.shapes l.unit l.root
