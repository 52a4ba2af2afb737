use Rattle.std.proofs.Common.{◌≡◌, drop}
use Rattle.qml_scope.specs.Shapes.{instance_of}
use Rattle.qml_scope.specs.Seats.{holders}
use Rattle.qml_scope.proofs.finding.seat_of_unit.Given as goal

abbrev pub invariant-loop-k : goal.invariant-loop-k
invariant-loop-k l = instance_of (drop l.k (holders l.shapes l.o)) l.unit l.o ≡ instance_of l.shapes l.unit l.o
