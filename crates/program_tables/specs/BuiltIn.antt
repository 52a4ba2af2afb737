-- The names of built-in types with what each means.
use Rattle.std.specs.Prelude.{ℕ, suc, if◌then◌else◌, List, [], ◌∷◌, ◌++◌, map, codes, slice_get, Option, Some, None}
use Rattle.std.specs.List.{flat_map}
use Rattle.name_table.specs.Named.{under}
use Rattle.qml_syntax.specs.Tree.{Units}
use Rattle.qml_types.specs.declared.kind.TypeNo.{TypeNo}
use Rattle.qml_types.specs.declared.kind.TypeNo.TheVariants as no
use Rattle.qml_types.specs.declared.members.Method.{Method}
use Rattle.qml_types.specs.Table.{TypeCell, own_cells, lineage, is_shown}
use Rattle.qml_types.specs.Members.{TypeSignal, own_signals, own_methods, name_of}
use Rattle.program_names.specs.Names.{changed}
use Rattle.program_names.specs.Layers.{NameMeaning, a_cell, a_signal_of, a_method, the_children}
use Rattle.program_tables.specs.declared.built_in.BuiltInName.{BuiltInName}
use Rattle.program_tables.specs.declared.built_in.BuiltInName.TheVariants as b
use Rattle.program_tables.specs.Putting.{put_all}

abbrev pub Entry : Type 0
Entry = Units × BuiltInName

abbrev pub cell_entries : TypeCell → List Entry
cell_entries cell =
    if is_shown cell.access
    then (cell.name, b.Cell cell.place cell.kind cell.access) ∷ (changed cell.name, b.Changed) ∷ []
    else []

abbrev pub method_entry : Method → Entry
method_entry m = (name_of m, b.Method)

abbrev pub signal_entries : TypeNo → ℕ → List TypeSignal → List Entry
signal_entries t i [] = []
signal_entries t i (s ∷ rest) = (s.name, b.Signal t i) ∷ signal_entries t (suc i) rest

abbrev pub children_entries : TypeNo → List Entry
children_entries no.Item = (codes "data", b.Children) ∷ []
children_entries _ = []

-- those that a type has beside its bases
abbrev pub own_entries : TypeNo → List Entry
own_entries t =
    flat_map cell_entries (own_cells t) ++ map method_entry (own_methods t) ++ signal_entries t 0 (own_signals t) ++
    children_entries t

unfoldable pub table_of : TypeNo → List Entry
table_of t = put_all [] (flat_map own_entries (lineage t))

abbrev pub all_types : List TypeNo
all_types =
    no.QtObject ∷ no.Component ∷ no.Item ∷ no.Timer ∷ no.Connections ∷ no.Binding ∷ no.State ∷ no.PropertyChanges ∷
    no.ListModel ∷ no.ListElement ∷ no.Repeater ∷ no.Loader ∷ no.Host ∷ []

abbrev pub all_tables : List (List Entry)
all_tables = map table_of all_types

abbrev pub index_of : TypeNo → ℕ
index_of no.QtObject = 0
index_of no.Component = 1
index_of no.Item = 2
index_of no.Timer = 3
index_of no.Connections = 4
index_of no.Binding = 5
index_of no.State = 6
index_of no.PropertyChanges = 7
index_of no.ListModel = 8
index_of no.ListElement = 9
index_of no.Repeater = 10
index_of no.Loader = 11
index_of no.Host = 12

-- what a name of a type is
abbrev pub built_in : TypeNo → Units → Option BuiltInName
built_in t name = under (table_of t) name

-- what it means
abbrev pub parameters_of : Option TypeSignal → List Units
parameters_of None = []
parameters_of (Some s) = s.parameters

abbrev pub built_in_meaning : BuiltInName → NameMeaning
built_in_meaning (b.Cell place k a) = a_cell place k a
built_in_meaning b.Changed = a_signal_of []
built_in_meaning (b.Signal t i) = a_signal_of (parameters_of (slice_get (own_signals t) i))
built_in_meaning b.Method = a_method
built_in_meaning b.Children = the_children
