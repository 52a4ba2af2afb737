use Rattle.std.proofs.Common.{arith}
use Rattle.js_locals.specs.Laid.{laid}
use Rattle.js_frames.specs.Meant.{World}
use Rattle.js_frames.specs.Standing.{standing}
use Rattle.js_progress.proofs.MovingLemmas.{begun_at}
use Rattle.js_direct.proofs.DirectLemmas.{pair_moves}
use Rattle.js_direct.proofs.pairs.chain.Goals as goal

pub returns-then-machine-lt3 : goal.returns-then-machine-lt3
returns-then-machine-lt3 g c =
    begun_at (record { names = g.V.View.names c.args.view.now; view = g.V.View.seen c.args.view.now }) (laid c.args.tree.now) c.args.home c.args.at (standing c.args.machine.now) (standing c.begun.new.machine) c.in_ok-next.next c.in_ok-next.ensures

pub returns-in_ok-next-in-None : goal.returns-in_ok-next-in-None
returns-in_ok-next-in-None g c =
    begun_at (record { names = g.V.View.names c.args.view.now; view = g.V.View.seen c.args.view.now }) (laid c.args.tree.now) c.args.home c.args.at (standing c.args.machine.now) (standing c.begun-in-None.new.machine) c.in_ok-next-in-None.next c.in_ok-next-in-None.ensures

pub returns-in_ok-next-in-Some : goal.returns-in_ok-next-in-Some
returns-in_ok-next-in-Some g c =
    let w : World = record { names = g.V.View.names c.args.view.now; view = g.V.View.seen c.args.view.now } in
    pair_moves w (laid c.args.tree.now) c.args.home c.args.at c.in-Some.pair.part c.in-Some.pair.it.first c.in-Some.pair.it.second c.in-Some.pair.it.value (standing c.args.machine.now)
    (standing c.paired.new.machine) c.in_ok-next-in-Some.next c.requires c.in-Some.ensures (omega (arith, c.if-machine-lt3.false)) c.in_ok-next-in-Some.ensures
