use Rattle.std.proofs.Common.{List, subst, sym}
use Rattle.js_frames.specs.declared.frames.Frame.{Frame}
use Rattle.js_frames.specs.declared.frames.Next.TheVariants as next
use Rattle.js_locals.specs.Laid.{laid}
use Rattle.js_frames.specs.Standing.{standing}
use Rattle.js_progress.specs.Moving.{MovesAt}
use Rattle.js_subset.proofs.running.back.Goals as goal

pub returns-in_ok-next-in-Some : goal.returns-in_ok-next-in-Some
returns-in_ok-next-in-Some g c =
    subst (λ (fs : List Frame). MovesAt (record { names = g.V.View.names c.args.view.now; view = g.V.View.seen c.args.view.now }) (laid c.args.tree.now) c.args.home
    (record { frames = fs; reads = c.args.machine.now.reads.items; left = c.args.machine.now.left; locals = c.args.machine.now.locals }) (next.Back c.args.value) (standing c.back_to.new.machine) c.in_ok-next-in-Some.next)
    (sym c.in-Some.ensures) c.in_ok-next-in-Some.ensures
