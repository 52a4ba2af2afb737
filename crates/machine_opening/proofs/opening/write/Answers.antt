use Rattle.machine_model.specs.Levels.{deliver}
use Rattle.machine_state.specs.Keeping.{machine_of}
use Rattle.machine_deliveries.specs.Doing.{Does}
use Rattle.machine_deliveries.proofs.FitLemmas.{fits_again}
use Rattle.machine_effects.proofs.UnitsLemmas.{kept_by_write}
use Rattle.machine_opening.proofs.opening.write.Goals as goal

pub emit_changes-requires : goal.emit_changes-requires
emit_changes-requires g c =
    fits_again c.args.state.now c.write.new.state (g.R.Rules.asks c.args.engine.now.rules) (g.R.Rules.asks c.write.new.rules)
    (g.B.Bodies.asks c.args.engine.now.bodies) c.requires c.in-Ok.ensures.ready c.in-Ok.ensures.same
    (kept_by_write (machine_of c.args.state.now) (machine_of c.write.new.state) c.args.contents.items c.in-Ok.changed c.in-Ok.ensures.writes)

pub returns-in-Err-clause-does : goal.returns-in-Err-clause-does
returns-in-Err-clause-does g c = c.in-Err.ensures.writes (deliver c.args.left)
