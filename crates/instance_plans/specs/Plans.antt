-- What making gives: of an object as written, in the instance around it, from a number on.
use Rattle.std.specs.Prelude.{ℕ, nat_le, Bool, true, false, if◌then◌else◌, List, [], ◌∷◌, ◌++◌, map, length, Option, Some, None, Result, Ok, Err}
use Rattle.std.specs.Str.{bytes_eq}
use Rattle.std.specs.Option.{option_or, unwrap_or, option_and_then}
use Rattle.std.specs.List.{flat_map, filter_map, find}
use Rattle.qml_base.specs.declared.numbers.CellNo.{CellNo}
use Rattle.qml_base.specs.declared.names.Found.{Found}
use Rattle.qml_base.specs.declared.names.Found.TheVariants as finds
use Rattle.qml_syntax.specs.Tree.{Units}
use Rattle.qml_value.specs.declared.value.Value.{Value}
use Rattle.qml_types.specs.Table.{lineage, is_writable}
use Rattle.qml_types.specs.declared.kind.Access.{Access}
use Rattle.program_names.specs.Layers.{names_of_type}
use Rattle.qml_scope.specs.Shapes.{Known}
use Rattle.unit_rows.specs.declared.unit.ObjectRow.{ObjectRow}
use Rattle.unit_rows.specs.declared.names.NameRow.{NameRow}
use Rattle.unit_rows.specs.declared.names.NameFinds.TheVariants.{Cell as finds_cell, Object as finds_object, CellOf as finds_cell_of}
use Rattle.unit_rows.specs.NamesOfObjects.{rows_of_type}
use Rattle.unit_rows.specs.Given.{cell_given}
use Rattle.instance_plans.specs.Numbers.{AllRows, PlannedInstance, Plan, row_at, documents_of, builtin_of, builtin_at, planned_from, planned_instance}
use Rattle.instance_plans.specs.Contents.{Content, GivenCell, all_given}
use Rattle.instance_plans.specs.NamesMade.{InstanceNames, NameMade, names_seen, names_of_instance, count_of_object, delegate_cells, with_delegates}
use Rattle.instance_plans.specs.Cells.{MadeObject, made_object}
use Rattle.instance_plans.specs.Changes.{changes_made}

-- why a handed field is refused
pub data FieldFault : Type 0 where
  no_such_name : FieldFault
  is_readonly : FieldFault

pub data PlanFault : Type 0 where
  by_field : FieldFault → PlanFault
  full : PlanFault

pub record Instance : Type 0 where
  pub objects : List MadeObject
  pub names : List InstanceNames
  pub handed : List (CellNo × Value)
  pub changes : List (ℕ × List (CellNo × Content))

-- ---- handed fields

abbrev pub unless_writable : Access → Option FieldFault
unless_writable a = if is_writable a then None else Some is_readonly

abbrev pub fault_of_name : Option NameRow → Option FieldFault
fault_of_name None = Some no_such_name
fault_of_name (Some r) = elim (r.finds) as (λ _. Option FieldFault) [
  | finds_cell place a ↦ unless_writable a
  | finds_cell_of w place a ↦ unless_writable a
  | finds_object w ↦ Some is_readonly
  | _ ↦ Some no_such_name
]

-- the names of an object as its document sees it
abbrev pub names_of_row : AllRows → ObjectRow → List NameRow
names_of_row units r =
    rows_of_type (flat_map names_of_type (lineage (builtin_of units r.of_type))) ++
    flat_map (λ u. (row_at units u 0).names) (documents_of units r.of_type) ++ r.names

abbrev pub is_named : Units → NameRow → Bool
is_named name r = bytes_eq r.name name

-- the first handed field that names no property or a readonly one
abbrev pub fault_of_fields : List NameRow → List (List ℕ × Value) → Option FieldFault
fault_of_fields rows [] = None
fault_of_fields rows (f ∷ rest) = option_or (fault_of_name (find (is_named (f.0)) rows)) (fault_of_fields rows rest)

abbrev pub cell_to_fill : AllRows → Plan → CellNo → CellNo
cell_to_fill units plan c = record { object = c.object; place = cell_given (builtin_at units plan.objects c.object.0) c.place }

abbrev pub handed_to : AllRows → Plan → Value → Found → Option (CellNo × Value)
handed_to units plan v (finds.Cell c) = Some (cell_to_fill units plan c, v)
handed_to units plan v _ = None

abbrev pub cell_of_field : AllRows → Plan → List NameMade → List ℕ × Value → Option (CellNo × Value)
cell_of_field units plan names f =
    option_and_then (λ (n : NameMade). handed_to units plan (f.1) n.found) (find (λ (n : NameMade). bytes_eq n.name (f.0)) names)

-- ---- the plan

abbrev pub root_instance : Plan → ℕ → ℕ → Option ℕ → ℕ → PlannedInstance
root_instance plan u r enclosing first =
    unwrap_or (planned_instance plan.instances u first) (record { unit = u; component = r; root = first; enclosing = enclosing; objects = [] })

module _ (units : AllRows) (live : Known) (plan : Plan) (given : List GivenCell) where
  abbrev pub instance_made : ℕ → ℕ → ℕ → List (List ℕ × Value) → List (CellNo × Value) → Instance
  instance_made u r first delegates handed =
      let delegate_names = map (λ (d : List ℕ × Value). d.0) delegates in
      let cells = delegate_cells first (count_of_object units live plan u r 0) delegate_names in
      let names = with_delegates cells (map (names_of_instance units live plan first (length delegates)) plan.instances) in
      record {
        objects = map (made_object units live plan given first (map (λ (d : List ℕ × Value). d.1) delegates)) plan.objects;
        names = names;
        handed = handed;
        changes = changes_made units live plan given names;
      }

  abbrev pub unless_full : Bool → Instance → Result Instance PlanFault
  unless_full true made = Ok made
  unless_full false made = Err full

-- The object `r` of a document is made, in the instance around it with this root, from the number `first` on, of at most
-- `room` objects, with an owner, delegate names with their values, and handed fields: a field is judged before the room. The
-- parent of the first object is left to the caller.
abbrev pub plan_instance : AllRows → Known → ℕ → ℕ → Option ℕ → ℕ → ℕ → Option ℕ → List (List ℕ × Value) → List (List ℕ × Value) → Result Instance PlanFault
plan_instance units live u r enclosing first room owner delegates fields =
    let plan = planned_from units u r enclosing owner first in
    let given = all_given units live plan in
    let root = root_instance plan u r enclosing first in
    let handed = filter_map (cell_of_field units plan (names_seen units live plan root (r, first) (length delegates))) fields in
    elim (fault_of_fields (names_of_row units (row_at units u r)) fields) as (λ _. Result Instance PlanFault) [
      | Some fault ↦ Err (by_field fault)
      | None ↦ unless_full units live plan given (nat_le (length plan.objects) room) (instance_made units live plan given u r first delegates handed)
    ]
