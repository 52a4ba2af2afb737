use Rattle.std.proofs.Common.{◌≡◌, drop}
use Rattle.std.specs.List.{flat_map}
use Rattle.qml_types.specs.Members.{method_named, methods_of, own_methods}
use Rattle.qml_types.proofs.members.find_method.Given as goal

abbrev pub invariant-bases : goal.invariant-bases
invariant-bases l = method_named (flat_map own_methods (drop l.base-index l.base-items)) l.name ≡ method_named (methods_of l.fn.type_no) l.name
