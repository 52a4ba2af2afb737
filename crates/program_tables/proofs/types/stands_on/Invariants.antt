use Rattle.std.proofs.Common.{◌≡◌, drop}
use Rattle.std.specs.List.{list_any}
use Rattle.qml_types.specs.declared.kind.TypeRef.TheVariants.{Builtin}
use Rattle.program_names.specs.Layers.{same_ref}
use Rattle.program_tables.proofs.types.stands_on.Given as goal

abbrev pub invariant-bases : goal.invariant-bases
invariant-bases l = list_any (λ b. same_ref l.wanted (Builtin b)) (drop l.base-index l.base-items) ≡ list_any (λ b. same_ref l.wanted (Builtin b)) l.base-items
