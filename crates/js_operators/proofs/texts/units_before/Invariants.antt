use Rattle.std.proofs.Common.{◌≡◌, length}
use Rattle.js_meaning.specs.Operate.{units_before}
use Rattle.js_operators.proofs.texts.units_before.Given as goal

abbrev pub invariant-units : goal.invariant-units
invariant-units l = units_before l.x l.y ≡ units_before l.a l.b

abbrev pub decreases-units : goal.decreases-units
decreases-units l = length l.y
