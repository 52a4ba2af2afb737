use Rattle.std.proofs.Common.{◌≡◌}
use Rattle.js_frames.specs.Standing.{standing}
use Rattle.js_acting.specs.Acting.{Acts}
use Rattle.js_progress.specs.Moving.{work_at}
use Rattle.js_exec.proofs.moving.run_to_node.Given as goal

abbrev pub invariant-moves : goal.invariant-moves
invariant-moves g l =
    Acts (record { names = g.V.View.names l.view; view = g.V.View.seen l.view }) (g.V.Watch.sight l.view) (g.C.Code.meaning l.code) (g.C.Code.tables l.code) l.author l.fn.here l.here (standing l.fn.machine) l.fn.first (standing l.machine) l.next
    × (l.machine.left ≡ l.left) × (l.left ≡ l.fn.machine.left)

abbrev pub decreases-moves : goal.decreases-moves
decreases-moves g l = work_at (g.C.Code.tables l.code) l.here l.machine.frames l.next
