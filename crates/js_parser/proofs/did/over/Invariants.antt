use Rattle.std.proofs.Common.{◌≡◌, length}
use Rattle.js_machine.specs.Moves.{is_over}
use Rattle.js_parser.proofs.did.over.Given as goal

abbrev pub invariant-loop-frame : goal.invariant-loop-frame
invariant-loop-frame l = is_over l.fn.frames l.fn.nodes ≡ is_over l.frames l.nodes

abbrev pub decreases-loop-frame : goal.decreases-loop-frame
decreases-loop-frame l = length l.frames
