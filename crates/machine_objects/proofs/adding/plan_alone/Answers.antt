use Rattle.std.proofs.Common.{◌≡◌, ◌∙◌, sym, ap, ◌+◌, arith}
use Rattle.machine_state.specs.Keeping.{machine_of}
use Rattle.machine_objects.proofs.PlanLemmas.{planned_if, no_room}
use Rattle.machine_objects.proofs.adding.plan_alone.Goals as goal

pub returns-then-room-eq0-clause-full : goal.returns-then-room-eq0-clause-full
returns-then-room-eq0-clause-full c =
    let none : c.room-room.result ≡ 0 = omega (arith, c.if-room-eq0.true) in
    λ is. no_room (machine_of c.args.state.now) c.args.unit c.args.object (sym c.room-room.ensures ∙ none)

pub returns-clause-planned : goal.returns-clause-planned
returns-clause-planned c = planned_if (machine_of c.args.state.now) c.shapes.result.now.known c.args.unit c.args.object (c.given.result + 1) c.room-room.result c.plan_object.result c.shapes.ensures (ap (λ k. k + 1) c.given.ensures.given) c.room-room.ensures c.plan_object.ensures.planned c.plan_object.ensures.makes
