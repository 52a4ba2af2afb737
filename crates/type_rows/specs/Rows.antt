-- The rows of the names of a built-in type.
use Rattle.std.specs.Prelude.{◌≡◌, ℕ, if◌then◌else◌, List, [], ◌∷◌, ◌++◌, map}
use Rattle.std.specs.List.{flat_map}
use Rattle.qml_types.specs.Table.{TypeCell, is_shown, lineage, own_cells}
use Rattle.qml_types.specs.Members.{TypeSignal, own_signals, name_of, own_methods}
use Rattle.qml_types.specs.declared.members.Method.{Method}
use Rattle.qml_types.specs.declared.kind.TypeNo.{TypeNo}
use Rattle.qml_types.specs.declared.kind.TypeNo.TheVariants as no
use Rattle.program_names.specs.Names.{changed}
use Rattle.program_names.specs.Layers.{names_of_type}
use Rattle.unit_rows.specs.declared.names.NameRow.{NameRow}
use Rattle.unit_rows.specs.declared.names.NameFinds.TheVariants.{Cell as finds_cell, Signal as finds_signal, Method as finds_method}
use Rattle.unit_rows.specs.declared.names.SignalRef.TheVariants.{Change as change_of, Own as own_signal}
use Rattle.unit_rows.specs.NamesOfObjects.{rows_of_type}

-- as the definitions have them
abbrev pub type_rows : TypeNo → List NameRow
type_rows t = rows_of_type (flat_map names_of_type (lineage t))

-- ---- as they are told, type after type

abbrev pub rows_of_cell : TypeCell → List NameRow
rows_of_cell cell =
    if is_shown cell.access
    then record { name = cell.name; finds = finds_cell cell.place cell.access } ∷ record { name = changed cell.name; finds = finds_signal (change_of cell.place) [] } ∷ []
    else []

abbrev pub row_of_method : Method → NameRow
row_of_method m = record { name = name_of m; finds = finds_method }

abbrev pub row_of_signal : TypeSignal → NameRow
row_of_signal s = record { name = s.name; finds = finds_signal (own_signal s.place) s.parameters }

abbrev pub rows_of_base : TypeNo → List NameRow
rows_of_base b = flat_map rows_of_cell (own_cells b) ++ (map row_of_method (own_methods b) ++ map row_of_signal (own_signals b))

-- ---- all types

abbrev pub all_types : List TypeNo
all_types =
    no.QtObject ∷ no.Component ∷ no.Item ∷ no.Timer ∷ no.Connections ∷ no.Binding ∷ no.State ∷ no.PropertyChanges ∷ no.ListModel ∷ no.ListElement ∷
    no.Repeater ∷ no.Loader ∷ no.Host ∷ []

abbrev pub place_among : TypeNo → ℕ
place_among no.QtObject = 0
place_among no.Component = 1
place_among no.Item = 2
place_among no.Timer = 3
place_among no.Connections = 4
place_among no.Binding = 5
place_among no.State = 6
place_among no.PropertyChanges = 7
place_among no.ListModel = 8
place_among no.ListElement = 9
place_among no.Repeater = 10
place_among no.Loader = 11
place_among no.Host = 12
