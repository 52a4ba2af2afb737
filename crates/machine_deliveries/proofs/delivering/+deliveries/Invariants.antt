use Rattle.std.proofs.Common.{◌≡◌, ◌+◌, ◌*◌, ℕ, zero, suc, drop, length, map, reverse}
use Rattle.machine_model.specs.Acts.{each}
use Rattle.machine_model.specs.Emission.{emit_change, deliver_unless}
use Rattle.machine_model.specs.Bodies.{exec_next}
use Rattle.machine_model.specs.Levels.{deliver}
use Rattle.machine_state.specs.Keeping.{machine_of}
use Rattle.machine_bodies.specs.declared.bodies.Action.{Action}
use Rattle.machine_bodies.specs.declared.bodies.Action.TheVariants as action
use Rattle.machine_bodies.specs.Doing.{action_meant}
use Rattle.own_handlers.specs.Seen.{delivery_seen}
use Rattle.machine_deliveries.specs.Fitting.{Fits}
use Rattle.machine_deliveries.proofs.delivering.+deliveries.Given as goal

abbrev pub decreases-deliver : goal.decreases-deliver
decreases-deliver g l = 7 * l.left + 0

abbrev pub decreases-deliver_unless : goal.decreases-deliver_unless
decreases-deliver_unless g l = 7 * l.left + 1

abbrev pub decreases-deliver_all : goal.decreases-deliver_all
decreases-deliver_all g l = 7 * l.left + 2

abbrev pub decreases-emit : goal.decreases-emit
decreases-emit g l = 7 * l.left + 3

abbrev pub decreases-emit_changes : goal.decreases-emit_changes
decreases-emit_changes g l = 7 * l.left + 4

abbrev pub decreases-act : goal.decreases-act
decreases-act g l = 7 * l.left + 5

abbrev pub decreases-exec : goal.decreases-exec
decreases-exec g l = 7 * l.left + 6

abbrev pub invariant-deliver_all-deliveries : goal.invariant-deliver_all-deliveries
invariant-deliver_all-deliveries g l = record {
  does : each (deliver_unless (deliver l.left) l.emitter) (map delivery_seen (reverse l.behind.items)) (machine_of l.state) ≡ each (deliver_unless (deliver l.left) l.emitter) (map delivery_seen l.fn.list.items) (machine_of l.initial.state);
  fits : Fits (g.R.Rules.asks l.engine.rules) (g.B.Bodies.asks l.engine.bodies) l.state;
}

abbrev pub decreases-deliver_all-deliveries : goal.decreases-deliver_all-deliveries
decreases-deliver_all-deliveries g l = length l.behind.items

abbrev pub invariant-emit_changes-cells : goal.invariant-emit_changes-cells
invariant-emit_changes-cells g l = record {
  does : each (emit_change (deliver l.left)) (drop l.cell-index l.cells) (machine_of l.state) ≡ each (emit_change (deliver l.left)) l.cells (machine_of l.initial.state);
  fits : Fits (g.R.Rules.asks l.engine.rules) (g.B.Bodies.asks l.engine.bodies) l.state;
}

abbrev pub invariant-exec-actions : goal.invariant-exec-actions
invariant-exec-actions g l = record {
  does : exec_next (deliver l.left) l.at (action_meant g.B.Bodies.goes_on g.B.Bodies.left l.action) (machine_of l.state) ≡ exec_next (deliver l.left) l.fn.at (action_meant g.B.Bodies.goes_on g.B.Bodies.left l.fn.first) (machine_of l.initial.state);
  fits : Fits (g.R.Rules.asks l.engine.rules) (g.B.Bodies.asks l.engine.bodies) l.state;
}

abbrev nodes : {W : Type 0} → (W → ℕ) → Action W → ℕ
nodes left (action.Effect e w) = suc (left w)
nodes left (action.End o) = zero

abbrev pub decreases-exec-actions : goal.decreases-exec-actions
decreases-exec-actions g l = nodes g.B.Bodies.left l.action
