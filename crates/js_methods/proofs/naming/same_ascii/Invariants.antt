use Rattle.std.proofs.Common.{◌≡◌, length}
use Rattle.js_meaning.specs.Operate.{same_units}
use Rattle.js_methods.proofs.naming.same_ascii.Given as goal

abbrev pub invariant-units : goal.invariant-units
invariant-units l = same_units l.x l.y ≡ same_units l.units l.bytes

abbrev pub decreases-units : goal.decreases-units
decreases-units l = length l.x
