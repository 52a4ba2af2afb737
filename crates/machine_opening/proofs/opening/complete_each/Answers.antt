use Rattle.machine_model.specs.Levels.{deliver}
use Rattle.machine_state.specs.Keeping.{machine_of}
use Rattle.machine_objects.specs.Making.{complete_one}
use Rattle.machine_deliveries.specs.Doing.{Does}
use Rattle.machine_opening.proofs.OpeningLemmas.{one_completed, completion_off}
use Rattle.machine_opening.proofs.opening.complete_each.Goals as goal

pub objects-preserved : goal.objects-preserved
objects-preserved g c = record {
  does = one_completed (complete_one (deliver c.args.left)) c.objects.completed c.args.now (machine_of c.objects.state) (machine_of c.emit.new.state) _
      c.objects-test.true c.in-Ok.ensures.does c.objects.invariant.does;
  fits = c.in-Ok.ensures.fits;
}

pub returns-in-Err-clause-does : goal.returns-in-Err-clause-does
returns-in-Err-clause-does g c =
    completion_off (complete_one (deliver c.args.left)) c.objects.completed c.args.now (machine_of c.objects.state) (machine_of c.emit.new.state) c.in-Err.fault _
    c.objects-test.true c.in-Err.ensures.does c.objects.invariant.does
