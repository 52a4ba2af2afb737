-- What adding an instance does to the machine.
use Rattle.std.specs.Prelude.{◌≡◌, List, ◌++◌, map, Option}
use Rattle.qml_base.specs.declared.numbers.ObjNo.{ObjNo}
use Rattle.trace_print.specs.declared.entry.Entry.{Entry}
use Rattle.live_tree.specs.Live.{Live}
use Rattle.instance_plans.specs.declared.planned.Planned.{Planned}
use Rattle.instance_plans.specs.Plans.{Instance}
use Rattle.instance_plans.specs.Shaped.{shape_made}
use Rattle.instance_contents.specs.Making.{looks_of}
use Rattle.machine_model.specs.State.{Machine}
use Rattle.machine_model.specs.Acts.{goes}
use Rattle.machine_model.specs.Making.{add_told}
use Rattle.machine_making.specs.Adding.{AddsAll, TellsObjects}

-- the machine's tree with its names and numbers is this one, and its trace
pub record Stands (m : Machine) (live : Live) (trace : List Entry) : Type 0 where
  pub tree : m.tree ≡ live.tree
  pub given : m.given ≡ live.given
  pub known : m.known ≡ live.known
  pub trace_so : m.trace ≡ trace

abbrev pub machine_with : Machine → List Planned → Live → List Entry → Machine
machine_with m planned live trace = record m { tree = live.tree; given = live.given; known = live.known; written = m.written ++ planned; trace = trace }

-- what is added is what the instance has, so the machine goes on with the tree and the trace as they are then
abbrev pub IsTheMachines : Option ObjNo → List Planned → Instance → Machine → Live → Live → List Entry → List Entry → List ObjNo → List ObjNo → Type 0
IsTheMachines origin planned i m old new told longer before starts =
    Stands m old told → AddsAll origin (map looks_of i.objects) (map shape_made i.names) old new → TellsObjects old.given (map looks_of i.objects) told longer before starts
    → add_told origin planned i m.given m ≡ goes tt (machine_with m planned new longer)
