-- The names of the objects of a plan, with what they find.
use Rattle.std.specs.Prelude.{ℕ, suc, ◌+◌, ◌*◌, Bool, true, false, not, nat_eq, if◌then◌else◌, List, [], ◌∷◌, ◌++◌, map, length, codes, Option, Some, None}
use Rattle.std.specs.Str.{bytes_eq}
use Rattle.std.specs.Option.{option_map, option_and_then}
use Rattle.std.specs.List.{flat_map, filter, filter_map}
use Rattle.qml_base.specs.declared.numbers.ObjNo.{ObjNo}
use Rattle.qml_base.specs.declared.numbers.UnitNo.{UnitNo}
use Rattle.qml_base.specs.declared.numbers.CellNo.{CellNo}
use Rattle.qml_base.specs.declared.names.Found.{Found}
use Rattle.qml_base.specs.declared.names.Found.TheVariants as finds
use Rattle.qml_syntax.specs.Tree.{Units}
use Rattle.qml_types.specs.Table.{lineage, cells_of, is_writable}
use Rattle.qml_types.specs.declared.kind.TypeNo.{TypeNo}
use Rattle.qml_types.specs.declared.kind.TypeNo.TheVariants as no
use Rattle.qml_types.specs.declared.kind.TypeRef.{TypeRef}
use Rattle.program_names.specs.Layers.{names_of_type}
use Rattle.unit_rows.specs.declared.names.SignalRef.{SignalRef}
use Rattle.unit_rows.specs.declared.names.SignalRef.TheVariants.{Change as change_of, Own as own_signal}
use Rattle.unit_rows.specs.declared.names.NameFinds.TheVariants.{Cell as finds_cell, Signal as finds_signal, Function as finds_function, Method as finds_method, Object as finds_object, CellOf as finds_cell_of}
use Rattle.unit_rows.specs.declared.names.NameRow.{NameRow}
use Rattle.unit_rows.specs.Rows.{UnitRows}
use Rattle.unit_rows.specs.NamesOfObjects.{rows_of_type}
use Rattle.instance_plans.specs.Numbers.{AllRows, PlannedInstance, Plan, row_at, component_at, number_in, number_of, planned_instance, documents_of, builtin_of, is_component_at, object_no, cell_no, unit_no}
use Rattle.instance_plans.specs.Contents.{has_row}
use Rattle.qml_scope.specs.Shapes.{Known}

-- the names of one object as one document sees them, those of its aliases last
pub record ObjectNames : Type 0 where
  pub object : ObjNo
  pub names : List (Units × Found)

-- the names of one instance: its document, its root, the root of the instance around it, its ids, the delegate names of its
-- root, and those of its objects
pub record InstanceNames : Type 0 where
  pub unit : UnitNo
  pub root : ObjNo
  pub enclosing : Option ObjNo
  pub ids : List (Units × ObjNo)
  pub names : List (Units × CellNo)
  pub members : List ObjectNames

-- a signal by one number: 2 p for the change of the cell at place p, 2 k + 1 for the k-th own signal
abbrev pub signal_no : SignalRef → ℕ
signal_no (change_of place) = 2 * place
signal_no (own_signal n) = 2 * n + 1
signal_no _ = 0

-- a name with what it finds, and whether that is a property that may be written
pub record NameMade : Type 0 where
  pub name : Units
  pub found : Found
  pub writable : Bool
  pub is_alias : Bool

abbrev pub name_made : Units → Found → Bool → Bool → NameMade
name_made name found writable is_alias = record { name = name; found = found; writable = writable; is_alias = is_alias }

-- the hidden cell that a method reads: `get` that of the rows, `itemAt` that of the delegates behind all others
abbrev pub hidden_cell : ℕ → ℕ → Units → Option CellNo
hidden_cell n cells name =
    if bytes_eq name (codes "itemAt") then Some (cell_no n cells)
    else (if bytes_eq name (codes "get") then Some (cell_no n 2) else None)

module _ (units : AllRows) (live : Known) (plan : Plan) where
  abbrev pub found_object : ℕ → Found
  found_object n = if is_component_at units plan.objects n then finds.Component (object_no n) else finds.Object (object_no n)

  abbrev pub aliased_cell : Units → ℕ → Bool → ℕ → NameMade
  aliased_cell name place writable m = name_made name (finds.Cell (cell_no m place)) writable true

  abbrev pub aliased_object : Units → ℕ → NameMade
  aliased_object name m = name_made name (found_object m) false true

  abbrev pub list_of_option : {A : Type 0} → Option A → List A
  list_of_option None = []
  list_of_option (Some a) = a ∷ []

  -- a name of the object of a number with so many cells, declared in an instance of a document
  abbrev pub made_by : Option PlannedInstance → ℕ → ℕ → ℕ → NameRow → List NameMade
  made_by s u n cells r = elim (r.finds) as (λ _. List NameMade) [
    | finds_cell place a ↦ name_made r.name (finds.Cell (cell_no n place)) (is_writable a) false ∷ []
    | finds_signal x parameters ↦ name_made r.name (finds.Signal (object_no n) (signal_no x)) false false ∷ []
    | finds_function b ↦ name_made r.name (finds.Body (record { unit = unit_no u; at = b }) (object_no n)) false false ∷ []
    | finds_method ↦ name_made r.name (finds.Method (object_no n) (hidden_cell n cells r.name)) false false ∷ []
    | finds_object w ↦ list_of_option (option_map (aliased_object r.name) (option_and_then (λ i. number_of plan.instances i w) s))
    | finds_cell_of w place a ↦ list_of_option (option_map (aliased_cell r.name place (is_writable a)) (option_and_then (λ i. number_of plan.instances i w) s))
  ]

  -- the names of a built-in type
  abbrev pub builtin_names : ℕ → ℕ → TypeNo → List NameMade
  builtin_names n cells t = flat_map (made_by None 0 n cells) (rows_of_type (flat_map names_of_type (lineage t)))

  -- those that the root of a document declares
  abbrev pub names_of_document : ℕ → ℕ → ℕ → List NameMade
  names_of_document n cells u = flat_map (made_by (planned_instance plan.instances u n) u n cells) (row_at units u 0).names

  abbrev pub count_cells : TypeRef → ℕ
  count_cells t = length (cells_of (builtin_of units t)) + length (flat_map (λ u. (row_at units u 0).cells) (documents_of units t))

  abbrev pub aliases_last : List NameMade → List NameMade
  aliases_last ns = filter (λ (n : NameMade). not n.is_alias) ns ++ filter (λ (n : NameMade). n.is_alias) ns

  -- how many cells an object as written has, its delegate names among them
  abbrev pub count_of_object : ℕ → ℕ → ℕ → ℕ
  count_of_object u o delegates = count_cells (row_at units u o).of_type + length (row_at units u o).cells + delegates

  -- all that an object of an instance has as its document sees it
  abbrev pub names_seen : PlannedInstance → ℕ × ℕ → ℕ → List NameMade
  names_seen s at delegates = elim (has_row units live plan s (at.0)) [
    | false ↦ builtin_names (at.1) 0 no.Component
    | true ↦
        let r = row_at units s.unit (at.0) in
        let cells = count_of_object s.unit (at.0) delegates in
        aliases_last (
        builtin_names (at.1) cells (builtin_of units r.of_type) ++
        flat_map (names_of_document (at.1) cells) (documents_of units r.of_type) ++
        flat_map (made_by (Some s) s.unit (at.1) cells) r.names)
  ]

  abbrev pub with_found : NameMade → List ℕ × Found
  with_found n = (n.name, n.found)

  -- the delegate names are those of the first object
  abbrev pub delegates_at : ℕ → ℕ → ℕ → ℕ
  delegates_at first count n = if nat_eq n first then count else 0

  abbrev pub names_of_object : ℕ → ℕ → PlannedInstance → ℕ × ℕ → ObjectNames
  names_of_object first delegates s at =
      record { object = object_no (at.1); names = map with_found (names_seen s at (delegates_at first delegates (at.1))) }

  abbrev pub id_made : PlannedInstance → List ℕ × ℕ → Option (List ℕ × ObjNo)
  id_made s i = option_map (λ n. (i.0, object_no n)) (number_in s.objects (i.1))

  abbrev pub names_of_instance : ℕ → ℕ → PlannedInstance → InstanceNames
  names_of_instance first delegates s = record {
    unit = unit_no s.unit;
    root = object_no s.root;
    enclosing = option_map object_no s.enclosing;
    ids = filter_map (id_made s) (component_at units s.unit s.component).ids;
    names = [];
    members = map (names_of_object first delegates s) s.objects;
  }

abbrev pub delegate_cells : ℕ → ℕ → List Units → List (List ℕ × CellNo)
delegate_cells n place [] = []
delegate_cells n place (d ∷ rest) = (d, cell_no n place) ∷ delegate_cells n (suc place) rest

-- the first instance has the delegate names
abbrev pub with_delegates : List (List ℕ × CellNo) → List InstanceNames → List InstanceNames
with_delegates names [] = []
with_delegates names (s ∷ rest) =
    record { unit = s.unit; root = s.root; enclosing = s.enclosing; ids = s.ids; names = names; members = s.members } ∷ rest

-- ---- the names of a unit that belong to no object

abbrev pub script_made : List ℕ × ℕ → List ℕ × Found
script_made x = (x.0, finds.Script (unit_no (x.1)))

abbrev pub function_made : ℕ → List ℕ × ℕ → List ℕ × Found
function_made u f = (f.0, finds.Body (record { unit = unit_no u; at = f.1 }) (object_no 0))

-- they stand in an instance of their own, which has no object of a document
abbrev pub names_of_unit : ℕ → UnitRows → InstanceNames
names_of_unit u rows = record {
  unit = unit_no u;
  root = object_no 0;
  enclosing = None;
  ids = [];
  names = [];
  members = record { object = object_no 0; names = map (function_made u) rows.functions ++ map script_made rows.scripts } ∷ [];
}
