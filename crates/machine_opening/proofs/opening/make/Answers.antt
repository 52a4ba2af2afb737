use Rattle.machine_model.specs.Levels.{deliver}
use Rattle.machine_state.specs.Keeping.{machine_of}
use Rattle.machine_deliveries.specs.Doing.{Does}
use Rattle.machine_deliveries.proofs.FitLemmas.{fits_again}
use Rattle.machine_opening.proofs.UnitsLemmas.{kept_by_making}
use Rattle.machine_opening.proofs.opening.make.Goals as goal

pub deliver_made-requires : goal.deliver_made-requires
deliver_made-requires g c =
    fits_again c.args.state.now c.make_alone.new.state (g.R.Rules.asks c.args.engine.now.rules) (g.R.Rules.asks c.make_alone.new.rules)
    (g.B.Bodies.asks c.args.engine.now.bodies) c.requires c.in-Ok.ensures.ready c.in-Ok.ensures.same
    (kept_by_making c.args.unit c.args.object (machine_of c.args.state.now) (machine_of c.make_alone.new.state) c.in-Ok.made c.in-Ok.ensures.makes)

pub returns-in-Err-clause-does : goal.returns-in-Err-clause-does
returns-in-Err-clause-does g c = c.in-Err.ensures.makes (deliver c.args.left)
