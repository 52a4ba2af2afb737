use Rattle.std.proofs.Common.{rules, ◌≡◌, ◌∙◌, sym, nat_eq, true, false}
use Rattle.qml_scope.proofs.SeatLemmas.{counted_seated, counted_all, counted_next}
use Rattle.qml_scope.proofs.seats.count_seats.Goals as goal

pub returns-then-seat-n : goal.returns-then-seat-n
returns-then-seat-n c =
    let is : nat_eq c.in-Some.seat.0 c.args.n ≡ true = search rules in
    λ seats lists. counted_seated c.args.n c.loop-k.k seats c.in-Some.seat (sym (lists c.loop-k.k) ∙ sym c.in-Some.ensures) is (c.loop-k.invariant seats lists)

pub returns-in-None : goal.returns-in-None
returns-in-None c = λ seats lists. counted_all c.args.n c.loop-k.k seats (sym (lists c.loop-k.k) ∙ sym c.in-None.ensures) (c.loop-k.invariant seats lists)

pub loop-k-preserved : goal.loop-k-preserved
loop-k-preserved c =
    let not : nat_eq c.in-Some.seat.0 c.args.n ≡ false = search rules in
    λ seats lists. counted_next c.args.n c.loop-k.k seats c.in-Some.seat (sym (lists c.loop-k.k) ∙ sym c.in-Some.ensures) not (c.loop-k.invariant seats lists)
