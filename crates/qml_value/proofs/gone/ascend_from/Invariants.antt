use Rattle.std.proofs.Common.{◌∷◌, drop}
use Rattle.qml_value.specs.Scrubbing.{Ascends}
use Rattle.qml_value.proofs.gone.ascend_from.Given as goal

abbrev pub invariant-rest : goal.invariant-rest
invariant-rest l = Ascends (l.last ∷ drop l.number-index l.rest) → Ascends (l.fn.first ∷ l.rest)
