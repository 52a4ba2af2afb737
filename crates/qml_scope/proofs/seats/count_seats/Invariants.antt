use Rattle.std.proofs.Common.{List}
use Rattle.qml_scope.specs.Seats.{Seat, Lists}
use Rattle.qml_scope.proofs.SeatLemmas.{Past}
use Rattle.qml_scope.proofs.seats.count_seats.Given as goal

abbrev pub invariant-loop-k : goal.invariant-loop-k
invariant-loop-k l = (seats : List Seat) → Lists l.places.entries l.o seats → Past l.n l.k seats
