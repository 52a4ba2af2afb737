use Rattle.std.proofs.Common.{◌≡◌, length}
use Rattle.js_meaning.specs.Operate.{same_units}
use Rattle.js_methods.proofs.searching.same_units.Given as goal

abbrev pub invariant-units : goal.invariant-units
invariant-units l = same_units l.x l.y ≡ same_units l.a l.b

abbrev pub decreases-units : goal.decreases-units
decreases-units l = length l.x
