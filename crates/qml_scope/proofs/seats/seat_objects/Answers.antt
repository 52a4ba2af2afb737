use Rattle.std.proofs.Common.{◌≡◌, ◌+◌, ap, length, arith}
use Rattle.qml_scope.proofs.SeatLemmas.{seats_done}
use Rattle.qml_scope.proofs.seats.seat_objects.Goals as goal

pub returns : goal.returns
returns c = λ t shapes long tells.
    let long_all = ap length c.entries.ensures in
    let all : c.loop-p.p ≡ length c.args.shape.now.members + 1 = omega (arith, long_all) in
    seats_done c.loop-p.places.entries shapes c.args.shape.now c.loop-p.p all (c.loop-p.invariant shapes long tells)
