use Rattle.js_locals.specs.Laid.{laid}
use Rattle.js_frames.specs.Meant.{World}
use Rattle.js_frames.specs.Standing.{standing}
use Rattle.js_frames.specs.declared.frames.Next.TheVariants as next
use Rattle.js_direct.proofs.DirectLemmas.{then_back}
use Rattle.js_subset.proofs.running.first_moved.Goals as goal

pub returns-in_ok-last-in-Back : goal.returns-in_ok-last-in-Back
returns-in_ok-last-in-Back g c =
    let w : World = record { names = g.V.View.names c.args.view.now; view = g.V.View.seen c.args.view.now } in
    then_back w (laid c.args.tree.now) c.args.home (standing c.args.machine.now) (next.Begin c.args.at) (standing c.begun_directly.new.machine) c.in_ok-next.next c.in-Back.value
    (standing c.back.new.machine) c.in_ok-last-in-Back.last c.in-Back.is c.in_ok-next.ensures c.in_ok-last-in-Back.ensures
