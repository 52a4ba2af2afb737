use Rattle.std.proofs.Common.{length}
use Rattle.js_locals.specs.Laid.{laid}
use Rattle.js_locals.specs.Scopes.{Unplaced}
use Rattle.js_locals.proofs.locals.place_in.Given as goal

abbrev pub invariant-locals : goal.invariant-locals
invariant-locals l = Unplaced (laid l.tree) l.name l.locals l.left

abbrev pub decreases-locals : goal.decreases-locals
decreases-locals l = length l.left
