use Rattle.js_locals.specs.Laid.{laid}
use Rattle.js_frames.specs.Meant.{World}
use Rattle.js_frames.specs.Standing.{standing}
use Rattle.js_frames.specs.declared.frames.Next.TheVariants as next
use Rattle.js_direct.proofs.DirectLemmas.{then_begun}
use Rattle.js_direct.proofs.beginning.choice_followed.Goals as goal

pub returns-in_ok-further-in-Begin : goal.returns-in_ok-further-in-Begin
returns-in_ok-further-in-Begin g c =
    let w : World = record { names = g.V.View.names c.args.view.now; view = g.V.View.seen c.args.view.now } in
    then_begun w (laid c.args.tree.now) c.args.home (standing c.args.machine.now) (next.Begin c.args.at) (standing c.choice.new.machine) c.in_ok-next.next c.in-Begin.part
    (standing c.plain.new.machine) c.in_ok-further-in-Begin.further c.in-Begin.is c.in_ok-next.ensures c.in_ok-further-in-Begin.ensures
