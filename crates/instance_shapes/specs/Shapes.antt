-- The names of the instances of a plan, instance after instance.
use Rattle.std.specs.Prelude.{ℕ, suc, nat_eq, if◌then◌else◌, List, [], ◌∷◌, map, length, Option, None, Some}
use Rattle.std.specs.List.{flat_map}
use Rattle.std.specs.Option.{option_map}
use Rattle.qml_base.specs.declared.numbers.ObjNo.{ObjNo}
use Rattle.qml_base.specs.declared.numbers.CellNo.{CellNo}
use Rattle.qml_value.specs.declared.value.Value.{Value}
use Rattle.qml_scope.specs.declared.shape.Entry.{Entry}
use Rattle.qml_scope.specs.declared.shape.Shape.{Shape}
use Rattle.instance_plans.specs.declared.planned.PlannedInstance.{PlannedInstance}
use Rattle.instance_plans.specs.Numbers.{number_in, component_at, object_no, unit_no}
use Rattle.instance_plans.specs.NamesMade.{names_of_instance, delegate_cells, with_delegates, count_of_object}
use Rattle.instance_plans.specs.Shaped.{named_once, shape_made}
use Rattle.instance_contents.specs.declared.tables.Tables.{Tables}
use Rattle.instance_contents.specs.Tables.{rows_in, live_in, plan_in, placed}
use Rattle.instance_shapes.specs.Told.{pairs_seen}

abbrev pub delegates_of : Tables → ℕ → ℕ → ℕ
delegates_of t n delegates = if nat_eq n t.first then delegates else 0

abbrev pub entry_told : Tables → ℕ → PlannedInstance → ℕ → ℕ × ℕ → Entry
entry_told t k s delegates at =
    record { object = object_no (at.1); names = named_once (pairs_seen t k s at (delegates_of t (at.1) delegates)) }

abbrev pub id_if : List ℕ → Option ℕ → List (List ℕ × ObjNo)
id_if name None = []
id_if name (Some n) = (name, object_no n) ∷ []

abbrev pub id_told : Tables → ℕ → List ℕ × ℕ → List (List ℕ × ObjNo)
id_told t k id = id_if (id.0) (number_in (placed t k).objects (id.1))

abbrev pub ids_told : Tables → ℕ → List (List ℕ × ℕ) → List (List ℕ × ObjNo)
ids_told t k ids = flat_map (id_told t k) ids

abbrev pub around : Option ℕ → Option ObjNo
around enclosing = option_map object_no enclosing

abbrev pub shape_told : Tables → ℕ → PlannedInstance → ℕ → List (List ℕ × CellNo) → Shape
shape_told t k s delegates names = record {
  unit = unit_no s.unit;
  root = object_no s.root;
  enclosing = around s.enclosing;
  ids = named_once (ids_told t k (component_at (rows_in t) s.unit s.component).ids);
  names = names;
  members = map (entry_told t k s delegates) s.objects;
}

-- instances from a place on, the first of them with these delegate names
abbrev pub shapes_told : Tables → ℕ → ℕ → List (List ℕ × CellNo) → List PlannedInstance → List Shape
shapes_told t delegates k names [] = []
shapes_told t delegates k names (s ∷ rest) = shape_told t k s delegates names ∷ shapes_told t delegates (suc k) [] rest

abbrev pub cells_told : ℕ → ℕ → List (List ℕ × Value) → List (List ℕ × CellNo)
cells_told n place delegates = delegate_cells n place (map (λ (d : List ℕ × Value). d.0) delegates)

-- ---- as the definitions have it

-- the delegate names stand behind all others of the first object, which is object `r` of a document
abbrev pub delegate_names : Tables → ℕ → ℕ → List (List ℕ × Value) → List (List ℕ × CellNo)
delegate_names t u r delegates = cells_told t.first (count_of_object (rows_in t) (live_in t) (plan_in t) u r 0) delegates

abbrev pub shapes_of_plan : Tables → ℕ → ℕ → List (List ℕ × Value) → List Shape
shapes_of_plan t u r delegates =
    map shape_made (with_delegates (delegate_names t u r delegates)
    (map (names_of_instance (rows_in t) (live_in t) (plan_in t) t.first (length delegates)) t.instances.items))
