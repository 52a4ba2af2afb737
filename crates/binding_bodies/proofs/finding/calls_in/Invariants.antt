use Rattle.std.proofs.Common.{take}
use Rattle.js_locals.specs.Laid.{laid}
use Rattle.binding_bodies.specs.Behind.{AreCalls}
use Rattle.binding_bodies.proofs.finding.calls_in.Given as goal

-- the calls in the bodies so far
abbrev pub invariant-rows : goal.invariant-rows
invariant-rows l = AreCalls (laid l.tree) (take l.row-index l.rows) l.calls.items
