use Rattle.std.proofs.Common.{◌≡◌, drop}
use Rattle.qml_types.specs.Members.{method_named}
use Rattle.qml_types.proofs.members.method_in.Given as goal

abbrev pub invariant-methods : goal.invariant-methods
invariant-methods l = method_named (drop l.method-index l.methods) l.name ≡ method_named l.methods l.name
