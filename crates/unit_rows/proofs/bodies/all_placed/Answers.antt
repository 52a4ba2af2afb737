use Rattle.std.proofs.Common.{drop, ◌+◌}
use Rattle.js_locals.specs.Laid.{laid}
use Rattle.unit_rows.proofs.BodyLemmas.{placing_on, row_in_front}
use Rattle.unit_rows.proofs.bodies.all_placed.Goals as goal

pub rows-preserved : goal.rows-preserved
rows-preserved c =
    placing_on (laid c.args.tree.now) c.args.rows.now c.rows.places.items c.push.new.self.items c.row-item.result c.in_ok-places_of.field-0 (drop c.rows.row-index c.args.rows.now) (drop (c.rows.row-index + 1) c.args.rows.now)
    c.rows.invariant (row_in_front c.args.rows.now c.rows.row-index c.row-item.result c.rows-test.true c.row-item.is) c.in_ok-places_of.ensures c.in_ok-push.ensures.items
