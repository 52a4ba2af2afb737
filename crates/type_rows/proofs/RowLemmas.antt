-- The rows of each built-in type.
use Rattle.std.proofs.Common.{◌≡◌, ◌∙◌, ap, sym, refl, ℕ, ◌+◌, ◌<◌, List, [], ◌∷◌, ◌++◌, map, slice_get, Option, Some}
use Rattle.std.specs.List.{flat_map}
use Rattle.qml_types.specs.Table.{lineage}
use Rattle.qml_types.specs.declared.kind.TypeNo.{TypeNo}
use Rattle.qml_types.specs.declared.kind.TypeNo.TheVariants as no
use Rattle.type_rows.specs.Rows.{type_rows, rows_of_base, all_types, place_among}

pub are_rows : (t : TypeNo) → flat_map rows_of_base (lineage t) ≡ type_rows t
are_rows no.QtObject = refl
are_rows no.Component = refl
are_rows no.Item = refl
are_rows no.Timer = refl
are_rows no.Connections = refl
are_rows no.Binding = refl
are_rows no.State = refl
are_rows no.PropertyChanges = refl
are_rows no.ListModel = refl
are_rows no.ListElement = refl
are_rows no.Repeater = refl
are_rows no.Loader = refl
are_rows no.Host = refl

pub rows_there : (t : TypeNo) → slice_get (map type_rows all_types) (place_among t) ≡ Some (type_rows t)
rows_there no.QtObject = refl
rows_there no.Component = refl
rows_there no.Item = refl
rows_there no.Timer = refl
rows_there no.Connections = refl
rows_there no.Binding = refl
rows_there no.State = refl
rows_there no.PropertyChanges = refl
rows_there no.ListModel = refl
rows_there no.ListElement = refl
rows_there no.Repeater = refl
rows_there no.Loader = refl
rows_there no.Host = refl
