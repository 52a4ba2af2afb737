use Rattle.std.proofs.Common.{drop}
use Rattle.js_locals.specs.Laid.{laid}
use Rattle.unit_rows.specs.Placed.{Placing}
use Rattle.unit_rows.proofs.bodies.all_placed.Given as goal

abbrev pub invariant-rows : goal.invariant-rows
invariant-rows l = Placing (laid l.tree) l.fn.rows l.places.items (drop l.row-index l.rows)
