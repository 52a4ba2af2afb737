-- Handed fields by the names of the first object.
use Rattle.std.specs.Prelude.{ℕ, List, [], ◌∷◌, Option, None, Some}
use Rattle.std.specs.Option.{option_map, option_and_then}
use Rattle.qml_base.specs.declared.numbers.CellNo.{CellNo}
use Rattle.qml_base.specs.declared.names.Found.{Found}
use Rattle.qml_base.specs.declared.names.Found.TheVariants as finds
use Rattle.qml_value.specs.declared.value.Value.{Value}
use Rattle.name_table.specs.Named.{under}
use Rattle.instance_plans.specs.Plans as plans
use Rattle.instance_contents.specs.declared.tables.Tables.{Tables}
use Rattle.instance_contents.specs.Tables.{rows_in, plan_in}
use Rattle.handed_fields.specs.declared.faults.FieldFault.{FieldFault}
use Rattle.handed_fields.specs.declared.faults.FieldFault.TheVariants as fault

abbrev pub fault_seen : FieldFault → plans.FieldFault
fault_seen fault.NoSuchName = plans.no_such_name
fault_seen fault.Readonly = plans.is_readonly

abbrev pub cell_behind : Tables → Found → Option CellNo
cell_behind t (finds.Cell c) = Some (plans.cell_to_fill (rows_in t) (plan_in t) c)
cell_behind t _ = None

abbrev pub cell_under : Tables → List (List ℕ × Found) → List ℕ → Option CellNo
cell_under t names name = option_and_then (cell_behind t) (under names name)

abbrev pub handed_under : Tables → List (List ℕ × Found) → List ℕ × Value → Option (CellNo × Value)
handed_under t names f = option_map (λ c. (c, f.1)) (cell_under t names (f.0))
