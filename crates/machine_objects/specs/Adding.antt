-- An object that is planned and added.
use Rattle.std.specs.Prelude.{◌≡◌, ℕ, suc, ◌-◌, ◌+◌, List, [], ◌++◌, map, length, None, Result, Ok, Err}
use Rattle.qml_base.specs.declared.numbers.ObjNo.{ObjNo}
use Rattle.instance_plans.specs.Plans as plans
use Rattle.instance_plans.specs.Plans.{full}
use Rattle.instance_plans.specs.Shaped.{shape_made}
use Rattle.instance_contents.specs.Making.{looks_of}
use Rattle.instance_contents.specs.Objects.{looks}
use Rattle.object_plans.specs.declared.planning.Order.{Order}
use Rattle.object_plans.specs.declared.planning.Instance.{Instance}
use Rattle.object_plans.specs.Planning.{instance_planned, Makes}
use Rattle.live_tree.specs.Live.{Live}
use Rattle.machine_model.specs.State.{Machine}
use Rattle.machine_model.specs.declared.stop.Stop.TheVariants as stop
use Rattle.machine_model.specs.Acts.{goes}
use Rattle.machine_model.specs.Making.{lesser, room, alone_planned, alone_written, add_told}
use Rattle.machine_making.specs.Adding.{starting}
use Rattle.machine_steps.specs.declared.fault.Fault.{Fault}
use Rattle.machine_steps.specs.declared.fault.Fault.TheVariants as fault
use Rattle.machine_state.specs.declared.state.State.{State}
use Rattle.machine_state.specs.Keeping.{machine_of}

abbrev pub room_left : Live → ℕ
room_left live = lesser (100000 - length live.tree.objects) (4294967295 - live.given)

-- an object with no owner and no instance around it, by the next number on
abbrev pub order_alone : ℕ → ℕ → Machine → Order
order_alone u o m = record { unit = u; object = o; enclosing = None; owner = None; first = suc m.given; room = room m }

abbrev pub alone_instance : ℕ → ℕ → Machine → plans.Instance
alone_instance u o m = instance_planned m.units m.known (order_alone u o m) [] []

pub record PlansAlone (u o : ℕ) (m : Machine) (i : Instance) : Type 0 where
  pub planned : alone_planned u o m ≡ Ok (alone_instance u o m)
  pub makes : Makes m.units m.known (order_alone u o m) [] i

-- what was made is added as the instance that it looks like
abbrev pub LooksLike : Instance → plans.Instance → Type 0
LooksLike x i = (map looks x.objects.items ≡ map looks_of i.objects) × (x.shapes.items ≡ map shape_made i.names)

pub record IsAdded (x : Instance) (i : plans.Instance) (old new : State) (before after : List ObjNo) : Type 0 where
  pub added : add_told None x.planned.items i old.tree.given (machine_of old) ≡ goes tt (machine_of new)
  pub given : new.tree.given ≡ old.tree.given + length i.objects
  pub starts : after ≡ before ++ starting (suc old.tree.given) (map looks_of i.objects)

abbrev pub AddsAs : Instance → plans.Instance → State → State → List ObjNo → List ObjNo → Type 0
AddsAs x i old new before after = LooksLike x i → IsAdded x i old new before after

-- the machine's plan is added; or there is no room for it, and nothing is changed
pub record IsMade (u o : ℕ) (old new : State) (before after : List ObjNo) : Type 0 where
  pub planned : alone_planned u o (machine_of old) ≡ Ok (alone_instance u o (machine_of old))
  pub added : add_told None (alone_written u o (machine_of old)) (alone_instance u o (machine_of old)) old.tree.given (machine_of old) ≡ goes tt (machine_of new)
  pub given : new.tree.given ≡ old.tree.given + length (alone_instance u o (machine_of old)).objects
  pub starts : after ≡ before ++ starting (suc old.tree.given) (map looks_of (alone_instance u o (machine_of old)).objects)

abbrev pub AddsAlone : ℕ → ℕ → State → Result (Unit {0}) Fault → State → List ObjNo → List ObjNo → Type 0
AddsAlone u o old (Ok done) new before after = IsMade u o old new before after
AddsAlone u o old (Err (fault.Stopped s)) new before after = (s ≡ stop.Objects) × (alone_planned u o (machine_of old) ≡ Err full) × (machine_of new ≡ machine_of old)
AddsAlone u o old (Err fault.NoMemory) new before after = Unit {0}
