use Rattle.std.proofs.Common.{IfOk, subst, sym}
use Rattle.js_frames.specs.declared.frames.Frame.{Frame}
use Rattle.js_frames.specs.Standing.{standing}
use Rattle.js_frames.specs.Statements.{Takes}
use Rattle.js_locals.specs.Laid.{laid}
use Rattle.js_statements.proofs.statements.looked_at.Goals as goal

pub returns-in-ForUpdate : goal.returns-in-ForUpdate
returns-in-ForUpdate c =
    subst (λ (f : Frame). IfOk c.for_looped.result (λ y. Takes (laid c.args.tree.now) f c.args.value.now (standing c.args.machine.now) (standing c.for_looped.new.machine) y)) (sym c.in-ForUpdate.is) c.for_looped.ensures
