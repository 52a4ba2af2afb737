use Rattle.std.proofs.Common.{arith}
use Rattle.js_locals.specs.Laid.{laid}
use Rattle.js_frames.specs.Meant.{World}
use Rattle.js_frames.specs.Standing.{standing}
use Rattle.js_progress.proofs.MovingLemmas.{begun_at}
use Rattle.js_direct.proofs.DirectLemmas.{plain_moves}
use Rattle.js_direct.proofs.beginning.plain.Goals as goal

pub returns-in_ok-next-in-None : goal.returns-in_ok-next-in-None
returns-in_ok-next-in-None g c =
    begun_at (record { names = g.V.View.names c.args.view.now; view = g.V.View.seen c.args.view.now }) (laid c.args.tree.now) c.args.home c.args.at (standing c.args.machine.now) (standing c.begun-in-None.new.machine) c.in_ok-next-in-None.next c.in_ok-next-in-None.ensures

pub returns-in_ok-next-in-Some-plain_value : goal.returns-in_ok-next-in-Some-plain_value
returns-in_ok-next-in-Some-plain_value g c =
    let w : World = record { names = g.V.View.names c.args.view.now; view = g.V.View.seen c.args.view.now } in
    plain_moves w (laid c.args.tree.now) c.args.home c.args.at c.in-Some.node.now c.in-Some-plain_value.it.cell c.in-Some-plain_value.it.value (standing c.args.machine.now)
    (standing c.plain_begun.new.machine) c.in_ok-next-in-Some-plain_value.next c.in-Some.ensures c.in-Some-plain_value.ensures (omega (arith, c.if-machine-eq0.false)) c.in_ok-next-in-Some-plain_value.ensures
