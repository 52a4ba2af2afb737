-- Making an instance: its objects with their cells and names, the settling, the starts, and the completions.
use Rattle.std.specs.Prelude.{ℕ, ◌+◌, ◌-◌, suc, nat_lt, nat_le, if◌then◌else◌, false, List, [], ◌∷◌, ◌++◌, map, length, Option, None, Result, Ok, Err}
use Rattle.std.specs.Option.{option_map}
use Rattle.std.specs.List.{filter}
use Rattle.qml_base.specs.declared.numbers.ObjNo.{ObjNo}
use Rattle.qml_base.specs.declared.numbers.CellNo.{CellNo}
use Rattle.qml_value.specs.declared.value.Value.{Value}
use Rattle.qml_types.specs.declared.kind.TypeRef.{TypeRef}
use Rattle.trace_print.specs.declared.entry.Entry.{Entry as TraceEntry}
use Rattle.trace_print.specs.declared.entry.Entry.TheVariants as entry
use Rattle.tree_model.specs.declared.cells.Object.{Object}
use Rattle.tree_model.specs.declared.cells.Cell.{Cell}
use Rattle.tree_model.specs.declared.cells.NewCell.{NewCell}
use Rattle.property_store.specs.Stores.{new_cells}
use Rattle.instance_plans.specs.Numbers.{planned_from, object_no}
use Rattle.instance_plans.specs.declared.planned.Planned.{Planned}
use Rattle.instance_plans.specs.Cells.{MadeObject}
use Rattle.instance_plans.specs.Treed.{cell_made}
use Rattle.instance_plans.specs.Shaped.{shape_made}
use Rattle.instance_plans.specs.Plans.{Instance, PlanFault, by_field, full, plan_instance}
use Rattle.machine_model.specs.State.{Machine, objects, Delivery, starts, completed}
use Rattle.machine_model.specs.Acts.{Done, ◌>>=◌, ◌>>◌, nothing, look, turn_into, stop_with, each, by_test, tell}
use Rattle.machine_model.specs.Settling.{Settled}
use Rattle.machine_model.specs.Showing.{tell_settled}
use Rattle.machine_model.specs.Emission.{Below, settle, deliver_unless, emit, emit_change}

-- ---- from a plan to the tree

abbrev pub object_made : Option ObjNo → ℕ → MadeObject → Object
object_made origin n x = record { number = object_no n; owner = option_map object_no x.owner; origin = origin; condemned = false }

abbrev pub objects_made : Option ObjNo → ℕ → List MadeObject → List Object
objects_made origin n [] = []
objects_made origin n (x ∷ rest) = object_made origin n x ∷ objects_made origin (suc n) rest

abbrev pub cells_made : ℕ → List MadeObject → List Cell
cells_made n [] = []
cells_made n (x ∷ rest) = new_cells (object_no n) 0 (map cell_made x.cells) ++ cells_made (suc n) rest

abbrev pub types_made : ℕ → List MadeObject → List (ObjNo × List TypeRef)
types_made n [] = []
types_made n (x ∷ rest) = (object_no n, x.types) ∷ types_made (suc n) rest

-- the machine with the objects of an instance, which are written so
abbrev pub with_instance : Option ObjNo → List Planned → Instance → Machine → Machine
with_instance origin planned i m = record m {
  tree = record {
    objects = m.tree.objects ++ objects_made origin (suc m.given) i.objects;
    cells = m.tree.cells ++ cells_made (suc m.given) i.objects;
  };
  given = m.given + length i.objects;
  known = record {
    instances = m.known.instances ++ map shape_made i.names;
    told = m.known.told ++ types_made (suc m.given) i.objects;
  };
  written = m.written ++ planned;
}

-- ---- what is made, and in which order all goes on

-- how many more objects may be made: 100,000 are live at most, and 4,294,967,295 is the last number
abbrev pub lesser : ℕ → ℕ → ℕ
lesser a b = if nat_lt a b then a else b

abbrev pub room : Machine → ℕ
room m = lesser (100000 - length m.tree.objects) (4294967295 - m.given)

abbrev pub numbered_from : ℕ → List MadeObject → List (ObjNo × MadeObject)
numbered_from n [] = []
numbered_from n (x ∷ rest) = (object_no n, x) ∷ numbered_from (suc n) rest

abbrev pub made_entry : ObjNo × MadeObject → TraceEntry
made_entry x = entry.Make (x.0) (x.1).shown

abbrev pub tell_made : ObjNo × MadeObject → Done
tell_made x = tell (made_entry x)

-- the changes of cells that were there before; what new objects hold is no change
abbrev pub older : ℕ → Settled → Settled
older given s = record { cells = s.cells; changed = filter (λ (c : CellNo). nat_le c.object.0 given) s.changed; reports = s.reports }

-- the objects in document order
abbrev pub add_told : Option ObjNo → List Planned → Instance → ℕ → Done
add_told origin planned i given = turn_into (with_instance origin planned i) >> each tell_made (numbered_from (suc given) i.objects)

-- an object of a unit, with no instance around it and no owner: how its objects are written, and the plan
abbrev pub alone_written : ℕ → ℕ → Machine → List Planned
alone_written u o m = (planned_from m.units u o None None (suc m.given)).objects

abbrev pub alone_planned : ℕ → ℕ → Machine → Result Instance PlanFault
alone_planned u o m = plan_instance m.units m.known u o None (suc m.given) (room m) None [] []

abbrev pub start_of : ObjNo → Delivery
start_of o = record { object = o; deed = starts; is_aimed = false }

module _ (below : Below) where
  abbrev pub tell_older : Settled → Done
  tell_older s = tell_settled s >> each (emit_change below) s.changed

  abbrev pub older_after : ℕ → Settled → Done
  older_after given s = tell_older (older given s)

  abbrev pub start : ObjNo × MadeObject → Done
  start x = by_test (x.1).starts (deliver_unless below (x.0) (start_of (x.0))) nothing

  abbrev pub complete : ObjNo × MadeObject → Done
  complete x = emit below (x.0) completed []

  -- the objects are added; the tree settles; the starts by number; and then the completions by number
  abbrev pub made : Option ObjNo → List Planned → Instance → ℕ → Done
  made origin planned i given =
      let all = numbered_from (suc given) i.objects in
      add_told origin planned i given >> (settle >>= older_after given) >> each start all >> each complete all

  abbrev pub by_plan : Option ObjNo → List Planned → ℕ → Result Instance PlanFault → Done
  by_plan origin planned given (Ok i) = made origin planned i given
  by_plan origin planned given (Err (by_field fault)) = nothing
  by_plan origin planned given (Err full) = stop_with objects

  abbrev pub make_alone : ℕ → ℕ → Machine → Done
  make_alone u o m = by_plan None (alone_written u o m) m.given (alone_planned u o m)

  abbrev pub opened : ℕ → Done
  opened u = look (make_alone u 0) >>= (λ act. act)
