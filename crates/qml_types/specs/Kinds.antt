-- The kinds of properties by their names.
use Rattle.std.specs.Prelude.{ℕ, List, [], ◌∷◌, codes, Option, Some, None, if◌then◌else◌}
use Rattle.std.specs.Str.{bytes_eq}
use Rattle.qml_types.specs.declared.kind.TypeNo.TheVariants as no
use Rattle.qml_types.specs.declared.kind.TypeRef.{TypeRef}
use Rattle.qml_types.specs.declared.kind.TypeRef.TheVariants.{Builtin}
use Rattle.qml_types.specs.declared.kind.PropKind.{PropKind}
use Rattle.qml_types.specs.declared.kind.PropKind.TheVariants as kind
use Rattle.qml_types.specs.declared.kind.KindRow.{KindRow}

-- the kind of a property that is declared with a type
abbrev pub kind_of_type : TypeRef → PropKind
kind_of_type (Builtin no.Component) = kind.Component
kind_of_type type = kind.Object type

abbrev pub kind_row : KindRow → List ℕ × PropKind
kind_row row = (row.0.now, row.1)

-- kinds that are no types
abbrev basic_kinds : List (List ℕ × PropKind)
basic_kinds =
    (codes "int", kind.Int) ∷
    (codes "real", kind.Real) ∷
    (codes "double", kind.Double) ∷
    (codes "string", kind.String) ∷
    (codes "url", kind.Url) ∷
    (codes "color", kind.Color) ∷
    (codes "bool", kind.Bool) ∷
    (codes "var", kind.Var) ∷
    (codes "variant", kind.Variant) ∷ []

-- the kind that is named so among these
abbrev pub found_kind : List (List ℕ × PropKind) → List ℕ → Option PropKind
found_kind [] name = None
found_kind (row ∷ rest) name = if bytes_eq row.0 name then Some row.1 else found_kind rest name

abbrev pub basic_kind : List ℕ → Option PropKind
basic_kind name = found_kind basic_kinds name
