use Rattle.std.proofs.Common.{◌≡◌, ◌∙◌, ap, sym, subst, cond, nat_eq, ◌&&◌, ℕ, Some}
use Rattle.qml_base.specs.declared.numbers.ObjNo.{ObjNo}
use Rattle.qml_scope.specs.Seats.{seat_in, sits_at, seats_with}
use Rattle.qml_scope.proofs.SeatLemmas.{seat_kept, seat_put}
use Rattle.qml_scope.proofs.ShapeLemmas.{on_ok_there}
use Rattle.qml_scope.proofs.seats.seat_object.Goals as goal

pub returns-in-Seated : goal.returns-in-Seated
returns-in-Seated c = λ t shapes long tells.
    let all = seats_with shapes c.args.shape.now c.args.p c.object_at-o.result in
    seat_kept c.args.places.now.entries shapes c.args.shape.now c.args.p c.object_at-o.result c.object_at-o.ensures (ap (λ n. sits_at n all) long ∙ c.in-Seated.ensures all (tells c.object_at-o.result)) tells

pub returns-in-Next : goal.returns-in-Next
returns-in-Next c = λ t shapes long tells.
    let o = c.object_at-o.result in
    let all = seats_with shapes c.args.shape.now c.args.p o in
    let counts = c.in-Next.ensures all (tells o) in
    let there = on_ok_there c.insert.result (sym c.is_ok.ensures.value ∙ t) c.insert.ensures.updates in
    let updates = subst (λ n. (q : ObjNo) (j : ℕ) → seat_in c.insert.new.self.entries q j ≡ cond (nat_eq o.0 q.0 && nat_eq c.in-Next.k j) (Some (n, c.args.p)) (seat_in c.args.places.now.entries q j)) (sym long) (λ q j. there.0 (q, j)) in
    seat_put c.args.places.now.entries c.insert.new.self.entries shapes c.args.shape.now c.args.p c.in-Next.k o c.object_at-o.ensures counts.0 (ap (λ n. sits_at n all) long ∙ counts.1) updates tells
