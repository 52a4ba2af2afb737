use Rattle.machine_deliveries.specs.Fitting.{Fits}
use Rattle.machine_deliveries.proofs.CycleLemmas.{always}
use Rattle.machine_events.proofs.event.do_event.Goals as goal

pub returns-in-Advance-clause-fits : goal.returns-in-Advance-clause-fits
returns-in-Advance-clause-fits g c =
    let asks = g.R.Rules.asks c.args.engine.now.rules in
    let bodies = g.B.Bodies.asks c.args.engine.now.bodies in
    always (Fits asks bodies c.advance.new.state) c.advance.result (c.advance.ensures.fits asks bodies c.requires)

pub returns-in-Reading-clause-fits : goal.returns-in-Reading-clause-fits
returns-in-Reading-clause-fits g c =
    let asks = g.R.Rules.asks c.args.engine.now.rules in
    let bodies = g.B.Bodies.asks c.args.engine.now.bodies in
    always (Fits asks bodies c.read_clock.new.state) c.read_clock.result (c.read_clock.ensures.fits asks bodies c.requires)

pub returns-in-PrintAll-clause-fits : goal.returns-in-PrintAll-clause-fits
returns-in-PrintAll-clause-fits g c =
    let asks = g.R.Rules.asks c.args.engine.now.rules in
    let bodies = g.B.Bodies.asks c.args.engine.now.bodies in
    always (Fits asks bodies c.show_all.new.state) c.show_all.result (c.show_all.ensures.fits asks bodies c.requires)
