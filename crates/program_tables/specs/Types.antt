-- Of which types an object is, by the tables.
use Rattle.std.specs.Prelude.{ℕ, zero, suc, Bool, false, ◌||◌, List, Option, Some, None}
use Rattle.std.specs.List.{list_any}
use Rattle.qml_types.specs.declared.kind.TypeNo.TheVariants as no
use Rattle.qml_types.specs.declared.kind.TypeRef.{TypeRef}
use Rattle.qml_types.specs.declared.kind.TypeRef.TheVariants.{Builtin, Document as OfDocument}
use Rattle.qml_types.specs.Table.{lineage}
use Rattle.program_names.specs.Layers.{same_ref}
use Rattle.program_tables.specs.declared.names.ObjectNames.{ObjectNames}
use Rattle.program_tables.specs.declared.names.UnitNames.{UnitNames}
use Rattle.program_tables.specs.Walk.{object_in}

abbrev pub base_by : Option ObjectNames → TypeRef
base_by None = Builtin no.QtObject
base_by (Some x) = x.base

abbrev pub base_in : List UnitNames → ℕ → ℕ → TypeRef
base_in us u o = base_by (object_in us u o)

abbrev pub any_built_in : TypeRef → TypeRef → Bool
any_built_in wanted (Builtin t) = list_any (λ b. same_ref wanted (Builtin b)) (lineage t)
any_built_in wanted (OfDocument e) = false

-- whether the wanted type is among a type and those below, with at most so many documents
abbrev pub any_of : ℕ → List UnitNames → TypeRef → TypeRef → Bool
any_of zero us wanted base = any_built_in wanted base
any_of (suc f) us wanted (Builtin t) = any_built_in wanted (Builtin t)
any_of (suc f) us wanted (OfDocument e) = any_of f us wanted (base_in us e.0 0) || same_ref wanted (OfDocument e)
