use Rattle.std.proofs.Common.{◌≡◌, length}
use Rattle.js_meaning.specs.Rows.{under_in}
use Rattle.js_methods.proofs.members.field_of.Given as goal

abbrev pub invariant-fields : goal.invariant-fields
invariant-fields l = under_in l.rest l.name ≡ under_in l.fields l.name

abbrev pub decreases-fields : goal.decreases-fields
decreases-fields l = length l.rest
