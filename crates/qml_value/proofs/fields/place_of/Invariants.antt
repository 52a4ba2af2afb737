use Rattle.std.proofs.Common.{take}
use Rattle.qml_value.specs.Naming.{Lacks}
use Rattle.qml_value.proofs.fields.place_of.Given as goal

abbrev pub invariant-fields : goal.invariant-fields
invariant-fields l = Lacks (take l.at l.fields) l.name
