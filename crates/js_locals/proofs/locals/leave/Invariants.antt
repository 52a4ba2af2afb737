use Rattle.std.proofs.Common.{◌≡◌, length}
use Rattle.js_locals.specs.Scopes.{outer}
use Rattle.js_locals.proofs.locals.leave.Given as goal

abbrev pub invariant-locals : goal.invariant-locals
invariant-locals l = outer l.locals ≡ outer l.fn.locals

abbrev pub decreases-locals : goal.decreases-locals
decreases-locals l = length l.locals
