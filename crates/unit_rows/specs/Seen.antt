-- The tables of units as the rows of which the definitions speak. A body is the part that stands at its place in the unit's
-- tree.
use Rattle.std.specs.Prelude.{List, map}
use Rattle.js_locals.specs.Laid.{laid}
use Rattle.unit_rows.specs.declared.unit.Unit.{Unit}
use Rattle.unit_rows.specs.Rows.{UnitRows}
use Rattle.unit_rows.specs.Placed.{body_in}

abbrev pub rows_seen : Unit → UnitRows
rows_seen u = record {
  objects = u.objects;
  components = u.components;
  bodies = map (body_in (laid u.bodies.tree)) u.bodies.rows;
  bindings = u.bodies.bindings;
  scripts = u.scripts;
  functions = u.functions;
}

abbrev pub all_seen : List Unit → List UnitRows
all_seen units = map rows_seen units
