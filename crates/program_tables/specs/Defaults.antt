-- Where child objects of an object go, by the tables.
use Rattle.std.specs.Prelude.{ℕ, zero, suc, List, Option, Some, None}
use Rattle.std.specs.Option.{option_map, option_or}
use Rattle.qml_types.specs.declared.kind.TypeRef.{TypeRef}
use Rattle.qml_types.specs.declared.kind.TypeRef.TheVariants.{Builtin, Document as OfDocument}
use Rattle.qml_types.specs.Members.{default_member}
use Rattle.program_tables.specs.declared.names.DefaultPlace.{DefaultPlace}
use Rattle.program_tables.specs.declared.names.DefaultPlace.TheVariants as place
use Rattle.program_tables.specs.declared.names.ObjectNames.{ObjectNames}
use Rattle.program_tables.specs.declared.names.UnitNames.{UnitNames}
use Rattle.program_tables.specs.Walk.{object_in}

abbrev pub default_by_type : (ℕ → Option DefaultPlace) → TypeRef → Option DefaultPlace
default_by_type deeper (Builtin t) = option_map (place.BuiltIn t) (default_member t)
default_by_type deeper (OfDocument e) = deeper e.0

abbrev pub default_of_object : (ℕ → Option DefaultPlace) → ℕ → Option ObjectNames → Option DefaultPlace
default_of_object deeper u None = None
default_of_object deeper u (Some x) =
    option_or (option_map (place.Declared u) x.default) (default_by_type deeper x.base)

-- that of the highest of at most so many layers of documents
abbrev pub default_at : ℕ → List UnitNames → ℕ → ℕ → Option DefaultPlace
default_at zero us u o = None
default_at (suc f) us u o = default_of_object (λ e. default_at f us e 0) u (object_in us u o)
