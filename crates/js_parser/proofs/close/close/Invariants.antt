use Rattle.std.proofs.Common.{◌≡◌, length}
use Rattle.js_machine.specs.Moves.{close_at}
use Rattle.js_parser.proofs.close.close.Given as goal

abbrev pub invariant-loop-frame : goal.invariant-loop-frame
invariant-loop-frame l = close_at l.level l.fn.frames l.fn.nodes l.fn.tight l.fn.target ≡ close_at l.level l.frames l.nodes l.tight l.target

abbrev pub decreases-loop-frame : goal.decreases-loop-frame
decreases-loop-frame l = length l.frames
