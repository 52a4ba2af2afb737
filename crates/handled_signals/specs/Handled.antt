-- The signals of an object for which the name of a handler stands, by the tables of a program.
use Rattle.std.specs.Prelude.{ℕ, ◌+◌, ◌-◌, if◌then◌else◌, List, [], ◌∷◌, ◌++◌, map, length, slice_get, Option, Some, None}
use Rattle.std.specs.Option.{option_and_then}
use Rattle.std.specs.List.{flat_map}
use Rattle.qml_syntax.specs.Tree.{Units}
use Rattle.qml_types.specs.declared.kind.TypeNo.{TypeNo}
use Rattle.qml_types.specs.Table.{cells_of}
use Rattle.qml_types.specs.Members.{signals_of}
use Rattle.name_groups.specs.Groups.{all_under}
use Rattle.program_names.specs.Names.{is_small_letter}
use Rattle.program_tables.specs.declared.building.UnitRow.{UnitRow}
use Rattle.program_tables.specs.declared.names.ObjectNames.{ObjectNames}
use Rattle.program_tables.specs.declared.names.UnitNames.{UnitNames}
use Rattle.program_tables.specs.Walk.{object_in}
use Rattle.document_tables.specs.declared.program.DocumentTable.{DocumentTable}
use Rattle.unit_rows.specs.declared.names.NameFinds.{NameFinds}
use Rattle.unit_rows.specs.declared.names.NameFinds.TheVariants.{Signal as finds_signal}
use Rattle.unit_rows.specs.declared.names.NameRow.{NameRow}
use Rattle.type_rows.specs.Rows.{type_rows}
use Rattle.declared_signals.specs.declared.declaring.DeclaredSignal.{DeclaredSignal}
use Rattle.declared_signals.specs.declared.declaring.ObjectSignals.{ObjectSignals}
use Rattle.declared_signals.specs.declared.declaring.UnitSignals.{UnitSignals}
use Rattle.declared_signals.specs.Told.{Signal, if_handled, signal_at}
use Rattle.handled_signals.specs.declared.signals.Found.{Found as FoundSignals}
use Rattle.handled_signals.specs.Layers.{layers_at}

abbrev pub raised_letter : ℕ → ℕ
raised_letter c = if is_small_letter c then c - 32 else c

-- ---- built-in types

abbrev pub signal_by : Units → Units → NameFinds → List Signal
signal_by h name (finds_signal s parameters) = if_handled name h (s, parameters)
signal_by h name _ = []

-- the signal that a name finds, if the handler is for it
abbrev pub signal_with : Units → NameRow → List Signal
signal_with h r = signal_by h r.name r.finds

-- those of the lower layers, and how many cells and other signals these have
pub record Found : Type 0 where
  pub cells : ℕ
  pub signals : ℕ
  pub list : List Signal

abbrev pub seen : FoundSignals → Found
seen x = record { cells = x.cells; signals = x.signals; list = x.list.items }

abbrev pub found_in_type : Option TypeNo → Units → Found
found_in_type None h = record { cells = 0; signals = 0; list = [] }
found_in_type (Some t) h = record {
  cells = length (cells_of t);
  signals = length (signals_of t);
  list = flat_map (signal_with h) (type_rows t);
}

-- ---- documents

abbrev pub rows_by : Option DocumentTable → List UnitRow
rows_by None = []
rows_by (Some x) = x.rows.items

abbrev pub rows_in : List DocumentTable → ℕ → List UnitRow
rows_in documents u = rows_by (slice_get documents u)

abbrev pub signals_in : List UnitSignals → ℕ → ℕ → Option ObjectSignals
signals_in ss u o = option_and_then (λ (unit : UnitSignals). slice_get unit.objects.items o) (slice_get ss u)

abbrev pub under_by : Option ObjectSignals → Units → List DeclaredSignal
under_by None h = []
under_by (Some x) h = all_under x.under h

abbrev pub count_by : Option ObjectSignals → ℕ
count_by None = 0
count_by (Some x) = x.signals

abbrev pub cells_by : Option ObjectNames → ℕ
cells_by None = 0
cells_by (Some x) = x.cells

-- with those of a layer
abbrev pub with_layer : List UnitNames → List DocumentTable → List UnitSignals → Units → ℕ × ℕ → Found → Found
with_layer us documents ss h at f = record {
  cells = f.cells + cells_by (object_in us at.0 at.1);
  signals = f.signals + count_by (signals_in ss at.0 at.1);
  list = f.list ++ map (signal_at (rows_in documents at.0) f.cells f.signals) (under_by (signals_in ss at.0 at.1) h);
}

-- with those of some layers, of which the last is the lowest
abbrev pub with_layers : List UnitNames → List DocumentTable → List UnitSignals → Units → List (ℕ × ℕ) → Found → Found
with_layers us documents ss h [] f = f
with_layers us documents ss h (x ∷ xs) f = with_layer us documents ss h x (with_layers us documents ss h xs f)

abbrev pub signals_handled : List UnitNames → List DocumentTable → List UnitSignals → ℕ → ℕ → Units → List Signal
signals_handled us documents ss u o h =
    let ls = layers_at (length us + 1) us u o in
    (with_layers us documents ss h ls.objects (found_in_type ls.base h)).list
