use Rattle.js_frames.specs.Standing.{standing}
use Rattle.js_acting.specs.Acting.{Acts}
use Rattle.js_exec.proofs.moving.run.Given as goal

abbrev pub invariant-nodes : goal.invariant-nodes
invariant-nodes g l =
    Acts (record { names = g.V.View.names l.view; view = g.V.View.seen l.view }) (g.V.Watch.sight l.view) (g.C.Code.meaning l.code) (g.C.Code.tables l.code) l.author l.fn.here l.here (standing l.fn.machine) l.fn.first (standing l.machine) l.next

abbrev pub decreases-nodes : goal.decreases-nodes
decreases-nodes g l = l.machine.left
