use Rattle.std.proofs.Common.{◌≡◌, ◌-◌, suc}
use Rattle.machine_model.specs.Acts.{each}
use Rattle.machine_model.specs.Levels.{deliver}
use Rattle.machine_state.specs.Keeping.{machine_of}
use Rattle.machine_objects.specs.Making.{complete_one, counted}
use Rattle.machine_deliveries.specs.Fitting.{Fits}
use Rattle.machine_opening.proofs.opening.complete_each.Given as goal

abbrev pub invariant-objects : goal.invariant-objects
invariant-objects g l = record {
  does : each (complete_one (deliver l.left)) (counted (suc l.completed) (l.now - l.completed)) (machine_of l.state) ≡ each (complete_one (deliver l.left)) (counted (suc l.before) (l.now - l.before)) (machine_of l.initial.state);
  fits : Fits (g.R.Rules.asks l.engine.rules) (g.B.Bodies.asks l.engine.bodies) l.state;
}

abbrev pub decreases-objects : goal.decreases-objects
decreases-objects g l = l.now - l.completed
