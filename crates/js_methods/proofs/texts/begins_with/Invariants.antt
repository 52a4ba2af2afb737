use Rattle.std.proofs.Common.{◌≡◌, length}
use Rattle.js_meaning.specs.Methods.{begins_with}
use Rattle.js_methods.proofs.texts.begins_with.Given as goal

abbrev pub invariant-units : goal.invariant-units
invariant-units l = begins_with l.x l.y ≡ begins_with l.part l.units

abbrev pub decreases-units : goal.decreases-units
decreases-units l = length l.y
