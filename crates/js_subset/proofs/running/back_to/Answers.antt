use Rattle.js_locals.specs.Laid.{laid}
use Rattle.js_frames.specs.Standing.{standing}
use Rattle.js_progress.proofs.MovingLemmas.{assigns_at, takes_at, resumes_at}
use Rattle.js_subset.proofs.running.back_to.Goals as goal

pub returns-in_ok-next : goal.returns-in_ok-next
returns-in_ok-next g c = assigns_at (record { names = g.V.View.names c.args.view.now; view = g.V.View.seen c.args.view.now }) (laid c.args.tree.now) c.args.home c.args.frame c.args.value (standing c.args.machine.now) (standing c.assigned.new.machine) c.in_ok-next.next c.in_ok-next.ensures

pub returns-in_ok-next-2 : goal.returns-in_ok-next-2
returns-in_ok-next-2 g c = takes_at (record { names = g.V.View.names c.args.view.now; view = g.V.View.seen c.args.view.now }) (laid c.args.tree.now) c.args.home c.args.frame c.args.value (standing c.args.machine.now) (standing c.taken.new.machine) c.in_ok-next-2.next c.in_ok-next-2.ensures

pub returns-in_ok-next-3 : goal.returns-in_ok-next-3
returns-in_ok-next-3 g c = resumes_at (record { names = g.V.View.names c.args.view.now; view = g.V.View.seen c.args.view.now }) (laid c.args.tree.now) c.args.home c.args.frame c.args.value (standing c.args.machine.now) (standing c.resumed.new.machine) c.in_ok-next-3.next c.in_ok-next-3.ensures
