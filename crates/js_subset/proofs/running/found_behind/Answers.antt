use Rattle.js_locals.specs.Laid.{laid}
use Rattle.js_frames.specs.Standing.{standing}
use Rattle.js_progress.proofs.MovingLemmas.{found_for}
use Rattle.js_subset.proofs.running.found_behind.Goals as goal

pub returns : goal.returns
returns g c = found_for (record { names = g.V.View.names c.args.view.now; view = g.V.View.seen c.args.view.now }) (laid c.args.tree.now) c.args.home c.args.frame c.args.spot (standing c.args.machine.now) (standing c.found_for.new.machine) c.in_ok-next.next c.in_ok-next.ensures
