-- The names of an object as they are told one after another: those of its type, of the documents of its type and of its own
-- text, and then those of all aliases.
use Rattle.std.specs.Prelude.{ℕ, Bool, true, false, if◌then◌else◌, List, [], ◌∷◌, ◌++◌, ◌+◌, length, Option, Some, None}
use Rattle.std.specs.List.{flat_map}
use Rattle.std.specs.Option.{option_map, option_and_then}
use Rattle.qml_base.specs.declared.names.Found.{Found}
use Rattle.qml_base.specs.declared.names.Found.TheVariants as finds
use Rattle.qml_syntax.specs.Tree.{Units}
use Rattle.qml_types.specs.declared.kind.TypeNo.TheVariants as no
use Rattle.program_names.specs.PathMeanings.{Way}
use Rattle.unit_rows.specs.declared.names.NameRow.{NameRow}
use Rattle.unit_rows.specs.declared.names.NameFinds.TheVariants.{Cell as finds_cell, Signal as finds_signal, Function as finds_function, Method as finds_method, Object as finds_object, CellOf as finds_cell_of}
use Rattle.instance_plans.specs.declared.planned.PlannedInstance.{PlannedInstance}
use Rattle.instance_plans.specs.Numbers.{AllRows, row_at, number_of, planned_instance, documents_of, builtin_of, object_no, cell_no, unit_no}
use Rattle.instance_plans.specs.Contents.{has_row}
use Rattle.instance_plans.specs.NamesMade.{signal_no, hidden_cell, found_object, count_of_object}
use Rattle.instance_names.specs.Names.{Pairs, pairs_of_type}
use Rattle.instance_contents.specs.declared.tables.Tables.{Tables}
use Rattle.instance_contents.specs.Tables.{rows_in, live_in, plan_in, placed}
use Rattle.instance_shapes.specs.declared.told.Viewer.{Viewer}

-- ---- a row of a name

abbrev pub instance_in : Tables → Viewer → Option PlannedInstance
instance_in t v = option_map (placed t) v.place

abbrev pub end_in : Tables → Option PlannedInstance → Way → Option ℕ
end_in t s w = option_and_then (λ i. number_of t.instances.items i w) s

-- what a name finds that is none of an alias
abbrev pub own_finds : Viewer → NameRow → Option Found
own_finds v r = elim (r.finds) as (λ _. Option Found) [
  | finds_cell place a ↦ Some (finds.Cell (cell_no v.number place))
  | finds_signal x parameters ↦ Some (finds.Signal (object_no v.number) (signal_no x))
  | finds_function b ↦ Some (finds.Body (record { unit = unit_no v.unit; at = b }) (object_no v.number))
  | finds_method ↦ Some (finds.Method (object_no v.number) (hidden_cell v.number v.cells r.name))
  | finds_object w ↦ None
  | finds_cell_of w place a ↦ None
]

-- what an alias's name finds, declared in an instance
abbrev pub alias_finds : Tables → Option PlannedInstance → NameRow → Option Found
alias_finds t s r = elim (r.finds) as (λ _. Option Found) [
  | finds_cell place a ↦ None
  | finds_signal x parameters ↦ None
  | finds_function b ↦ None
  | finds_method ↦ None
  | finds_object w ↦ option_map (found_object (rows_in t) (live_in t) (plan_in t)) (end_in t s w)
  | finds_cell_of w place a ↦ option_map (λ m. finds.Cell (cell_no m place)) (end_in t s w)
]

abbrev pub found_by : Tables → Option PlannedInstance → Viewer → Bool → NameRow → Option Found
found_by t s v true r = alias_finds t s r
found_by t s v false r = own_finds v r

abbrev pub pair_if : Units → Option Found → Pairs
pair_if name None = []
pair_if name (Some f) = (name, f) ∷ []

abbrev pub pairs_by : Tables → Option PlannedInstance → Viewer → Bool → NameRow → Pairs
pairs_by t s v aliases r = pair_if r.name (found_by t s v aliases r)

abbrev pub pairs_by_rows : Tables → Option PlannedInstance → Viewer → Bool → List NameRow → Pairs
pairs_by_rows t s v aliases rows = flat_map (pairs_by t s v aliases) rows

-- ---- an object

abbrev pub of_document : Viewer → ℕ → Viewer
of_document v u = record { place = None; unit = u; number = v.number; cells = v.cells }

abbrev pub pairs_of_document : Tables → Viewer → Bool → ℕ → Pairs
pairs_of_document t v aliases u =
    pairs_by_rows t (planned_instance t.instances.items u v.number) (of_document v u) aliases (row_at (rows_in t) u 0).names

abbrev pub pairs_of_documents : Tables → Viewer → Bool → List ℕ → Pairs
pairs_of_documents t v aliases documents = flat_map (pairs_of_document t v aliases) documents

-- the names that an object as written in the viewer's document declares
abbrev pub pairs_of_row : Tables → Viewer → ℕ → Bool → Pairs
pairs_of_row t v o aliases = pairs_by_rows t (instance_in t v) v aliases (row_at (rows_in t) v.unit o).names

-- what an object has under its names in an instance at a place, where it stands as written there
abbrev pub pairs_written : Tables → Viewer → ℕ → Pairs
pairs_written t v o =
    let r = row_at (rows_in t) v.unit o in
    let documents = documents_of (rows_in t) r.of_type in
    pairs_of_type v.number v.cells (builtin_of (rows_in t) r.of_type) ++
    (pairs_of_documents t v false documents ++ (pairs_of_row t v o false ++
    (pairs_of_documents t v true documents ++ pairs_of_row t v o true)))

abbrev pub viewer_of : ℕ → PlannedInstance → ℕ → ℕ → Viewer
viewer_of k s n cells = record { place = Some k; unit = s.unit; number = n; cells = cells }

abbrev pub cells_of_documents : AllRows → List ℕ → ℕ
cells_of_documents units [] = 0
cells_of_documents units (u ∷ rest) = length (row_at units u 0).cells + cells_of_documents units rest

abbrev pub cells_at : Tables → PlannedInstance → ℕ × ℕ → ℕ → ℕ
cells_at t s at delegates = count_of_object (rows_in t) (live_in t) (plan_in t) s.unit (at.0) delegates

-- all that an object of the instance at a place has; a Component that is made around it has the names of its type alone
abbrev pub pairs_seen : Tables → ℕ → PlannedInstance → ℕ × ℕ → ℕ → Pairs
pairs_seen t k s at delegates =
    if has_row (rows_in t) (live_in t) (plan_in t) s at.0
    then pairs_written t (viewer_of k s (at.1) (cells_at t s at delegates)) at.0
    else pairs_of_type at.1 0 no.Component
