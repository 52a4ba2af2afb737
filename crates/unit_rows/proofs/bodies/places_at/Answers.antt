use Rattle.js_locals.specs.Laid.{laid}
use Rattle.unit_rows.proofs.BodyLemmas.{body_placed}
use Rattle.unit_rows.proofs.bodies.places_at.Goals as goal

pub returns-then-at-places : goal.returns-then-at-places
returns-then-at-places c = body_placed (laid c.args.tree.now) c.args.rows.now c.args.places.now c.args.at c.index-places-at.result c.requires c.if-at-places.true c.index-places-at.is
