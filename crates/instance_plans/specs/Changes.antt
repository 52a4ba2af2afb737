-- What each PropertyChanges of a plan changes, by the names of the objects as they are when all is made.
use Rattle.std.specs.Prelude.{ℕ, Bool, ◌&&◌, nat_eq, if◌then◌else◌, List, [], ◌∷◌, ◌++◌, map, Option, Some, None}
use Rattle.std.specs.List.{flat_map, filter, find, list_any}
use Rattle.qml_base.specs.declared.numbers.ObjNo.{ObjNo}
use Rattle.qml_base.specs.declared.numbers.CellNo.{CellNo}
use Rattle.qml_base.specs.declared.names.Found.{Found}
use Rattle.qml_base.specs.declared.names.Found.TheVariants as finds
use Rattle.qml_syntax.specs.Tree.{Units}
use Rattle.qml_value.specs.declared.value.Value.{Object as AnObject, Component as AComponent}
use Rattle.qml_types.specs.declared.kind.TypeNo.{TypeNo}
use Rattle.qml_types.specs.declared.kind.TypeNo.TheVariants as no
use Rattle.program_names.specs.Layers.{same_type}
use Rattle.name_table.specs.Named.{under}
use Rattle.qml_scope.specs.Shapes.{Known, first_of, same_object, told_anywhere, types_among}
use Rattle.unit_rows.specs.declared.given.ChangeRow.{ChangeRow}
use Rattle.unit_rows.specs.Given.{cell_given, builtin_among}
use Rattle.instance_plans.specs.Numbers.{AllRows, PlannedInstance, Planned, Plan, row_at, documents_of, builtin_planned, planned_at, cell_no}
use Rattle.instance_plans.specs.Contents.{Content, plain, GivenCell, given_in, content_of}
use Rattle.instance_plans.specs.NamesMade.{ObjectNames, InstanceNames}

abbrev told_by_objects : List ObjectNames → ObjNo → Units → Option Found
told_by_objects [] o name = None
told_by_objects (e ∷ rest) o name = if same_object e.object o then under e.names name else told_by_objects rest o name

abbrev told_by_instances : List InstanceNames → ObjNo → Units → Option Found
told_by_instances [] o name = None
told_by_instances (s ∷ rest) o name = first_of (told_by_objects s.members o name) (told_by_instances rest o name)

abbrev type_after : AllRows → Known → Plan → ObjNo → Option Planned → TypeNo
type_after units live plan o (Some x) = builtin_planned units x
type_after units live plan o None = builtin_among (types_among live.told o)

module _ (units : AllRows) (live : Known) (plan : Plan) (given : List GivenCell) (names : List InstanceNames) where
  -- what an object has under a name when all is made
  abbrev member_after : ObjNo → Units → Option Found
  member_after o name = first_of (told_anywhere live.instances o name) (told_by_instances names o name)

  abbrev cell_after : CellNo → CellNo
  cell_after c = record { object = c.object; place = cell_given (type_after units live plan c.object (planned_at plan.objects c.object.0)) c.place }

  abbrev last_cell : Option Found → Option CellNo
  last_cell (Some (finds.Cell c)) = Some (cell_after c)
  last_cell _ = None

  abbrev behind_object : (ObjNo → Option CellNo) → Option Found → Option CellNo
  behind_object go_on (Some (finds.Object o)) = go_on o
  behind_object go_on (Some (finds.Component o)) = go_on o
  behind_object go_on _ = None

  -- the cell behind names of an object
  abbrev cell_behind : ObjNo → Units → List Units → Option CellNo
  cell_behind o n [] = last_cell (member_after o n)
  cell_behind o n (m ∷ rest) = behind_object (λ t. cell_behind t m rest) (member_after o n)

  abbrev cell_of_path : ObjNo → List Units → Option CellNo
  cell_of_path o [] = None
  cell_of_path o (n ∷ rest) = cell_behind o n rest

  -- the object in whose text a change stands is its author, the target its scope object
  abbrev change_by : PlannedInstance → ℕ → ObjNo → ChangeRow → List (CellNo × Content)
  change_by s from target r = elim (cell_of_path target r.path) [
    | None ↦ []
    | Some c ↦ (c, content_of units live plan s target.0 from r.value) ∷ []
  ]

  abbrev stands_with : ℕ → ℕ → ℕ → PlannedInstance → Bool
  stands_with n u o s = nat_eq s.unit u && list_any (λ (at : ℕ × ℕ). nat_eq (at.0) o && nat_eq (at.1) n) s.objects

  abbrev changes_in : ℕ → ObjNo → ℕ → ℕ → List (CellNo × Content)
  changes_in n target u o = elim (find (stands_with n u o) plan.instances) [
    | None ↦ []
    | Some s ↦ flat_map (change_by s n target) (row_at units u o).changes
  ]

  abbrev target_in : Option Content → Option ObjNo
  target_in (Some (plain (AnObject o))) = Some o
  target_in (Some (plain (AComponent o))) = Some o
  target_in _ = None

  abbrev changes_for : Planned → Option ObjNo → List (CellNo × Content)
  changes_for x None = []
  changes_for x (Some t) =
      let r = row_at units x.unit x.object in
      flat_map (λ u. changes_in x.number t u 0) (documents_of units r.of_type) ++ changes_in x.number t x.unit x.object

  abbrev is_changing : Planned → Bool
  is_changing x = same_type no.PropertyChanges (builtin_planned units x)

  abbrev changes_with_number : Planned → ℕ × List (CellNo × Content)
  changes_with_number x = (x.number, changes_for x (target_in (given_in given (cell_no x.number 1))))

  -- layer by layer; of two changes of one cell the later stays
  abbrev pub changes_made : List (ℕ × List (CellNo × Content))
  changes_made = map changes_with_number (filter is_changing plan.objects)
