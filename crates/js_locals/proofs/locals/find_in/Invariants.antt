use Rattle.std.proofs.Common.{◌≡◌, length, reverse}
use Rattle.js_locals.specs.Laid.{laid}
use Rattle.js_locals.specs.Scopes.{held_by}
use Rattle.js_locals.proofs.locals.find_in.Given as goal

abbrev pub invariant-locals : goal.invariant-locals
invariant-locals l = held_by (laid l.tree) l.name (reverse l.left) ≡ held_by (laid l.tree) l.name (reverse l.locals)

abbrev pub decreases-locals : goal.decreases-locals
decreases-locals l = length l.left
