use Rattle.std.proofs.Common.{reverse}
use Rattle.js_locals.specs.Laid.{laid}
use Rattle.js_locals.specs.Gathering.{Gathers, size_left}
use Rattle.js_locals.proofs.gathering.gathered.Given as goal

abbrev pub invariant-rows : goal.invariant-rows
invariant-rows l = Gathers (laid l.tree) l.var l.fn.first (reverse l.pending.items) l.places.items

abbrev pub decreases-rows : goal.decreases-rows
decreases-rows l = size_left (laid l.tree) (reverse l.pending.items)
