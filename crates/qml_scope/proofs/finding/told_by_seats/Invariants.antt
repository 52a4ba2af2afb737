use Rattle.std.proofs.Common.{◌≡◌, drop}
use Rattle.qml_scope.specs.Shapes.{told_anywhere}
use Rattle.qml_scope.specs.Seats.{holders}
use Rattle.qml_scope.proofs.finding.told_by_seats.Given as goal

abbrev pub invariant-loop-k : goal.invariant-loop-k
invariant-loop-k l = told_anywhere (drop l.k (holders l.shapes l.o)) l.o l.name ≡ told_anywhere l.shapes l.o l.name
