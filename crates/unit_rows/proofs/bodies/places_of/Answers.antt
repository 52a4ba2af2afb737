use Rattle.js_locals.specs.Laid.{laid}
use Rattle.unit_rows.proofs.BodyLemmas.{found_statements}
use Rattle.unit_rows.proofs.bodies.places_of.Goals as goal

pub returns-in-Statements : goal.returns-in-Statements
returns-in-Statements c = found_statements (laid c.args.tree.now) c.in-Statements.at c.args.row.now c.statements_places.result c.in-Statements.is c.statements_places.ensures
