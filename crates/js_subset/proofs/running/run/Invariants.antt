use Rattle.js_frames.specs.Standing.{standing}
use Rattle.js_frames.specs.Stepping.{Goes}
use Rattle.js_subset.proofs.running.run.Given as goal

abbrev pub invariant-nodes : goal.invariant-nodes
invariant-nodes g l =
    Goes (record { names = g.V.View.names l.view; view = g.V.View.seen l.view }) (g.C.Code.meaning l.code) (g.C.Code.tables l.code) l.fn.here l.here (standing l.fn.machine) l.fn.first (standing l.machine) l.next

abbrev pub decreases-nodes : goal.decreases-nodes
decreases-nodes g l = l.machine.left
