use Rattle.std.proofs.Common.{◌≡◌, List, length}
use Rattle.qml_scope.specs.declared.shape.Shape.{Shape}
use Rattle.qml_scope.specs.Seats.{Tells, seats, seats_with}
use Rattle.qml_scope.proofs.seats.seat_objects.Given as goal

abbrev pub invariant-loop-p : goal.invariant-loop-p
invariant-loop-p l = (shapes : List Shape) → length shapes ≡ l.n → Tells l.initial.places.entries (seats shapes) → Tells l.places.entries (seats_with shapes l.shape l.p)
