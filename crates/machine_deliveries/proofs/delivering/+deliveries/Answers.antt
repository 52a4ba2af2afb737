use Rattle.std.proofs.Common.{◌≡◌, ◌∙◌, ap, sym, subst, arith, ◌-◌}
use Rattle.machine_model.specs.Acts.{goes}
use Rattle.machine_model.specs.Bodies.{exec_next}
use Rattle.machine_model.specs.Levels.{deliver}
use Rattle.machine_state.specs.Keeping.{machine_of}
use Rattle.machine_bodies.specs.Doing.{action_meant}
use Rattle.machine_effects.specs.Acting.{answer_seen}
use Rattle.own_handlers.specs.Seen.{delivery_seen}
use Rattle.machine_deliveries.specs.Fitting.{Fits}
use Rattle.machine_deliveries.specs.Doing.{Does, left_of_begun}
use Rattle.machine_deliveries.proofs.FitLemmas.{other_bodies}
use Rattle.machine_deliveries.proofs.CycleLemmas.{one_less, goes_further, throws_there, stops_there, always}
use Rattle.machine_deliveries.proofs.delivering.+deliveries.Goals as goal

pub deliver-returns-in-Done-clause-does : goal.deliver-returns-in-Done-clause-does
deliver-returns-in-Done-clause-does g t c =
    let m = machine_of c.args.state.now in
    let some : c.args.state.now.turns ≡ 0 → ⊥ = λ z. omega (arith, z, c.if-state-eq0.false) in
    let more : c.args.left ≡ 0 → ⊥ = λ z. omega (arith, z, c.if-left-eq0.false) in
    one_less c.args.left (delivery_seen c.args.delivery) m some more
    ∙ c.in_ok-begun.ensures.begins (deliver (c.args.left - 1))
    ∙ ap (λ b. left_of_begun g.B.Bodies.goes_on g.B.Bodies.left (deliver (c.args.left - 1)) b (machine_of c.begin.new.state)) c.in-Done.is

pub deliver-returns-in-Body-clause-does : goal.deliver-returns-in-Body-clause-does
deliver-returns-in-Body-clause-does g t c =
    let m = machine_of c.args.state.now in
    let some : c.args.state.now.turns ≡ 0 → ⊥ = λ z. omega (arith, z, c.if-state-eq0.false) in
    let more : c.args.left ≡ 0 → ⊥ = λ z. omega (arith, z, c.if-left-eq0.false) in
    let same = one_less c.args.left (delivery_seen c.args.delivery) m some more
    ∙ c.in_ok-begun.ensures.begins (deliver (c.args.left - 1))
    ∙ ap (λ b. left_of_begun g.B.Bodies.goes_on g.B.Bodies.left (deliver (c.args.left - 1)) b (machine_of c.begin.new.state)) c.in-Body.is in
    subst (λ r. Does c.exec.result (machine_of c.exec.new.state) r) (sym same) c.exec.ensures.does

pub exec-returns-in-End-clause-does : goal.exec-returns-in-End-clause-does
exec-returns-in-End-clause-does g t c =
    let below = deliver c.args.left in
    subst (λ r. Does c.end.result (machine_of c.end.new.state) r)
    (ap (λ a. exec_next below c.actions.at-1 (action_meant g.B.Bodies.goes_on g.B.Bodies.left a) (machine_of c.actions.state)) (sym c.in-End.is) ∙ c.actions.invariant.does)
    (c.end.ensures.ends below)

pub exec-returns-in-End-clause-fits : goal.exec-returns-in-End-clause-fits
exec-returns-in-End-clause-fits g t c =
    let asks = g.R.Rules.asks c.actions.engine.rules in
    let bodies = g.B.Bodies.asks c.actions.engine.bodies in
    always (Fits asks bodies c.end.new.state) c.end.result (c.end.ensures.fits asks bodies c.actions.invariant.fits)

pub exec-returns-in-Err-clause-does : goal.exec-returns-in-Err-clause-does
exec-returns-in-Err-clause-does g t c =
    let below = deliver c.args.left in
    let m = machine_of c.actions.state in
    let h = ap (λ a. exec_next below c.actions.at-1 (action_meant g.B.Bodies.goes_on g.B.Bodies.left a) m) (sym c.in-Effect.is) ∙ c.actions.invariant.does in
    stops_there below c.actions.at-1 m (machine_of c.act.new.state) c.in-Err.fault c.in-Effect.effect (g.B.Bodies.left c.in-Effect.waiting) (g.B.Bodies.goes_on c.in-Effect.waiting) _
    c.in-Err.ensures.gives h

pub exec-returns-in-Throws-clause-does : goal.exec-returns-in-Throws-clause-does
exec-returns-in-Throws-clause-does g t c =
    let below = deliver c.args.left in
    let m = machine_of c.actions.state in
    let k = machine_of c.act.new.state in
    let h = ap (λ a. exec_next below c.actions.at-1 (action_meant g.B.Bodies.goes_on g.B.Bodies.left a) m) (sym c.in-Effect.is) ∙ c.actions.invariant.does in
    let acted = c.in-Ok.ensures.gives ∙ ap (λ a. goes (answer_seen a) k) c.in-Throws.is in
    subst (λ r. Does c.report.result (machine_of c.report.new.state) r)
    (throws_there below c.actions.at-1 m k c.in-Effect.effect (g.B.Bodies.left c.in-Effect.waiting) (g.B.Bodies.goes_on c.in-Effect.waiting) c.in-Throws.why _ acted h)
    c.report.ensures.told

pub exec-returns-in-Throws-clause-fits : goal.exec-returns-in-Throws-clause-fits
exec-returns-in-Throws-clause-fits g t c =
    let asks = g.R.Rules.asks c.act.new.engine.rules in
    let bodies = g.B.Bodies.asks c.act.new.engine.bodies in
    always (Fits asks bodies c.report.new.state) c.report.result (c.report.ensures.fits asks bodies c.in-Ok.ensures.fits)

pub exec-actions-preserved : goal.exec-actions-preserved
exec-actions-preserved g t c =
    let below = deliver c.args.left in
    let m = machine_of c.actions.state in
    let s = c.act.new.state in
    let h = ap (λ a. exec_next below c.actions.at-1 (action_meant g.B.Bodies.goes_on g.B.Bodies.left a) m) (sym c.in-Effect.is) ∙ c.actions.invariant.does in
    let acted = c.in-Ok.ensures.gives ∙ ap (λ a. goes (answer_seen a) (machine_of s)) c.in-Gives.is in
    record {
      does = goes_further below c.actions.at-1 s m c.in-Effect.effect (g.B.Bodies.left c.in-Effect.waiting) (g.B.Bodies.goes_on c.in-Effect.waiting) c.in-Gives.value
          (action_meant g.B.Bodies.goes_on g.B.Bodies.left c.in_ok-action.action) _ acted c.in_ok-action.ensures.next h;
      fits = other_bodies s (g.R.Rules.asks c.act.new.engine.rules) (g.B.Bodies.asks c.act.new.engine.bodies) (g.B.Bodies.asks c.resume.new.self) c.in-Ok.ensures.fits c.in_ok-action.ensures.same;
    }
