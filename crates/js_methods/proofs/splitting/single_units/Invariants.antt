use Rattle.std.proofs.Common.{◌≡◌, [], ◌∷◌, ◌++◌, length, map}
use Rattle.qml_value.specs.declared.value.Value.{Text}
use Rattle.js_methods.proofs.splitting.single_units.Given as goal

abbrev pub invariant-units : goal.invariant-units
invariant-units l = l.parts.items ++ map Text (map (λ u. u ∷ []) l.rest) ≡ map Text (map (λ u. u ∷ []) l.units)

abbrev pub decreases-units : goal.decreases-units
decreases-units l = length l.rest
