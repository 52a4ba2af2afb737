use Rattle.std.proofs.Common.{◌≡◌, [], ◌∷◌, take, map}
use Rattle.qml_text.proofs.parts.single_units.Given as goal

abbrev pub invariant-loop-unit : goal.invariant-loop-unit
invariant-loop-unit l = l.parts.items ≡ map (λ u. u ∷ []) (take l.unit-index l.units)
