use Rattle.std.proofs.Common.{◌≡◌, drop}
use Rattle.machine_model.specs.Acts.{each}
use Rattle.machine_model.specs.Levels.{deliver}
use Rattle.machine_state.specs.Keeping.{machine_of}
use Rattle.machine_objects.specs.Making.{start_one}
use Rattle.machine_deliveries.specs.Fitting.{Fits}
use Rattle.machine_opening.proofs.opening.start_each.Given as goal

abbrev pub invariant-objects : goal.invariant-objects
invariant-objects g l = record {
  does : each (start_one (deliver l.left)) (drop l.o-index l.objects) (machine_of l.state) ≡ each (start_one (deliver l.left)) l.objects (machine_of l.initial.state);
  fits : Fits (g.R.Rules.asks l.engine.rules) (g.B.Bodies.asks l.engine.bodies) l.state;
}
