use Rattle.std.proofs.Common.{◌≡◌, length}
use Rattle.js_locals.specs.Scopes.{fresh_onto}
use Rattle.js_locals.proofs.locals.declare.Given as goal

abbrev pub invariant-names : goal.invariant-names
invariant-names l = fresh_onto l.var l.names l.locals ≡ fresh_onto l.var l.fn.names l.fn.locals

abbrev pub decreases-names : goal.decreases-names
decreases-names l = length l.names
