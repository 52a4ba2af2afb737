use Rattle.std.proofs.Common.{take}
use Rattle.qml_scope.specs.Seats.{Tells, seats}
use Rattle.qml_scope.proofs.seats.seat_all.Given as goal

abbrev pub invariant-loop-i : goal.invariant-loop-i
invariant-loop-i l = Tells l.places.entries (seats (take l.i l.shapes))
