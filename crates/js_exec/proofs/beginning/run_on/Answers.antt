use Rattle.js_frames.specs.Standing.{standing}
use Rattle.js_acting.proofs.HandingLemmas.{runs_to}
use Rattle.js_exec.proofs.beginning.run_on.Goals as goal

pub returns : goal.returns
returns g c =
    runs_to (record { names = g.V.View.names c.args.view.now; view = g.V.View.seen c.args.view.now }) (g.V.Watch.sight c.args.view.now) (g.C.Code.meaning c.args.code.now) (g.C.Code.tables c.args.code.now)
    c.args.author c.args.here c.run.new.here (standing c.args.machine) c.args.first (standing c.run.new.machine) c.in_ok-next.next c.in-Some.tree.now c.in_ok-action.action
    c.in_ok-next.ensures c.in-Some.ensures c.in_ok-action.ensures
