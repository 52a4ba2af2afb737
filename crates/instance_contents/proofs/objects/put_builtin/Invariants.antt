use Rattle.std.proofs.Common.{◌≡◌, ◌++◌, drop, map}
use Rattle.qml_types.specs.declared.kind.TypeRef.TheVariants.{Builtin}
use Rattle.instance_contents.proofs.objects.put_builtin.Given as goal

abbrev pub invariant-types : goal.invariant-types
invariant-types l = l.types.items ++ map Builtin (drop l.base-index l.bases) ≡ l.initial.types.items ++ map Builtin l.bases
