-- What a settling answers, as the machine's definitions have it.
use Rattle.std.specs.Prelude.{◌≡◌, Result}
use Rattle.qml_base.specs.declared.numbers.ExprNo.{ExprNo}
use Rattle.qml_base.specs.declared.names.Home.{Home}
use Rattle.evaluation.specs.Ask.{Ask}
use Rattle.tree_settling.specs.declared.settling.Changed.{Changed}
use Rattle.tree_settling.specs.declared.settling.SettleFault.{SettleFault}
use Rattle.tree_settling.specs.declared.settling.SettleFault.TheVariants as settle_fault
use Rattle.qml_scope.specs.Shapes.{Known}
use Rattle.live_tree.specs.Live.{Live}
use Rattle.machine_model.specs.declared.stop.Stop.TheVariants as stop
use Rattle.machine_model.specs.State.{Machine}
use Rattle.machine_model.specs.Texts.{binding_asks}
use Rattle.machine_model.specs.Settling.{Settled}
use Rattle.machine_model.specs.Showing.{cell_site}
use Rattle.machine_model.specs.Emission.{settle}
use Rattle.machine_steps.specs.declared.fault.Fault.{Fault}
use Rattle.machine_steps.specs.declared.fault.Fault.TheVariants as fault
use Rattle.machine_steps.specs.Giving.{Gives}

-- a cell past the limit stops the run, by the name of the cell; without memory nothing is said
abbrev pub StopsAt : Known → SettleFault → Fault → Type 0
StopsAt known f fault.NoMemory = Unit {0}
StopsAt known (settle_fault.Past cell) (fault.Stopped s) = s ≡ stop.Past (cell_site known cell)
StopsAt known settle_fault.NoMemory (fault.Stopped s) = ⊥

-- the machine's tree and names are these, and its texts ask so
pub record Stands (m : Machine) (asks : ExprNo → Home → Ask) (live : Live) : Type 0 where
  pub tree : m.tree ≡ live.tree
  pub known : m.known ≡ live.known
  pub asks_so : asks ≡ binding_asks m.units

abbrev pub settled_from : Live → Changed → Settled
settled_from new c = record { cells = new.tree.cells; changed = c.cells.items; reports = c.reports.items }

-- the settling of the machine with the tree as it was is this answer, with the tree as it is now
abbrev pub SettlesAs : Machine → (ExprNo → Home → Ask) → Live → Live → Result Changed Fault → Type 0
SettlesAs m asks old new result = Stands m asks old → Gives (settled_from new) result (record m { tree = new.tree }) (settle m)
