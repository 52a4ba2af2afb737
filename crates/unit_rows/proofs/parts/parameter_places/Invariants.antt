use Rattle.js_locals.specs.Laid.{laid}
use Rattle.js_locals.specs.Gathering.{count_from}
use Rattle.unit_rows.specs.Placed.{Naming}
use Rattle.unit_rows.proofs.parts.parameter_places.Given as goal

abbrev pub invariant-parameters : goal.invariant-parameters
invariant-parameters l = Naming (laid l.tree) l.mark l.places.items l.part

abbrev pub decreases-parameters : goal.decreases-parameters
decreases-parameters l = count_from (laid l.tree) l.part
