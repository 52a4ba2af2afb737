use Rattle.std.proofs.Common.{subst, sym}
use Rattle.js_frames.specs.declared.frames.Frame.{Frame}
use Rattle.js_locals.specs.Laid.{laid}
use Rattle.js_frames.specs.Standing.{standing}
use Rattle.js_frames.specs.Statements.{GoesOn}
use Rattle.js_statements.proofs.unwinding.goes_on.Goals as goal

pub returns-in_ok-next-in-ForRound : goal.returns-in_ok-next-in-ForRound
returns-in_ok-next-in-ForRound c =
    subst (λ (f : Frame). GoesOn (laid c.args.tree.now) f (standing c.args.machine.now) (standing c.for_updated.new.machine) c.in_ok-next-in-ForRound.next)
    (sym c.in-ForRound.is) c.in_ok-next-in-ForRound.ensures
