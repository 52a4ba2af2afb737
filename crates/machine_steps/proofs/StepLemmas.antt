-- What the tree's settling answers is the machine's settling.
use Rattle.std.proofs.Common.{◌≡◌, ◌∙◌, ap, sym, subst, List}
use Rattle.std.specs.declared.result.Result.TheVariants.{Ok, Err}
use Rattle.qml_base.specs.declared.numbers.ExprNo.{ExprNo}
use Rattle.qml_base.specs.declared.numbers.CellNo.{CellNo}
use Rattle.qml_base.specs.declared.names.Home.{Home}
use Rattle.evaluation.specs.Ask.{Ask}
use Rattle.tree_model.specs.declared.cells.Cell.{Cell}
use Rattle.tree_model.specs.Settling.{Tree, with_cells, fresh, IsLowestPast}
use Rattle.tree_model.specs.Telling.{Changes, Reports}
use Rattle.tree_settling.specs.Settles.{Settles}
use Rattle.tree_settling.specs.declared.settling.Changed.{Changed}
use Rattle.tree_settling.specs.declared.settling.SettleFault.{SettleFault}
use Rattle.tree_settling.specs.declared.settling.SettleFault.TheVariants as settle_fault
use Rattle.qml_scope.specs.Shapes.{names_of, types_among}
use Rattle.live_tree.specs.Live.{Live, world_around}
use Rattle.machine_model.specs.declared.stop.Stop.TheVariants as stop
use Rattle.machine_model.specs.State.{Machine}
use Rattle.machine_model.specs.Texts.{world_of}
use Rattle.machine_model.specs.Acts.{goes, stops}
use Rattle.machine_model.specs.Showing.{cell_site}
use Rattle.machine_model.specs.Emission.{settle, with_settled}
use Rattle.machine_model.proofs.SettlingLemmas.{settles_so, stops_so}
use Rattle.machine_steps.specs.declared.fault.Fault.{Fault}
use Rattle.machine_steps.specs.declared.fault.Fault.TheVariants as fault
use Rattle.machine_steps.specs.Giving.{Fails}
use Rattle.machine_steps.specs.Settles.{StopsAt, Stands, settled_from}

-- ---- the machine's own world and tree

worlds : (m : Machine) (asks : ExprNo → Home → Ask) (live : Live) → Stands m asks live → world_around live asks ≡ world_of m.units m.known
worlds m asks live h =
    ap (λ k. record { names = names_of k; types = types_among k.told; asks = asks }) (sym h.known) ∙
    ap (λ q. record { names = names_of m.known; types = types_among m.known.told; asks = q }) h.asks_so

own_ok : (m : Machine) (c : Changed) (news : List Cell) → Settles (world_of m.units m.known) m.tree (Ok c) news →
    settle m ≡ goes (record { cells = news; changed = c.cells.items; reports = c.reports.items }) (record m { tree = with_cells m.tree news })
own_ok m c news (none, e, changes, reports) =
    let world = world_of m.units m.known in
    let of_changes = subst (λ xs. Changes m.tree.cells xs c.cells.items) e changes in
    let of_reports = subst (λ xs. Reports m.tree.cells xs c.reports.items) e reports in
    ap (with_settled m) (settles_so world m.tree c.cells.items c.reports.items none of_changes of_reports) ∙
    ap (λ xs. goes (record { cells = xs; changed = c.cells.items; reports = c.reports.items }) (record m { tree = with_cells m.tree xs })) (sym e)

tree_is : (m : Machine) (old new : Live) → m.tree ≡ old.tree → new.tree.objects ≡ old.tree.objects → with_cells m.tree new.tree.cells ≡ new.tree
tree_is m old new e objects =
    ap (λ os. record { objects = os; cells = new.tree.cells }) (ap (λ (t : Tree). t.objects) e ∙ sym objects)

-- ---- the answer

pub settled_well : (m : Machine) (asks : ExprNo → Home → Ask) (old new : Live) (c : Changed) →
    Settles (world_around old asks) old.tree (Ok c) new.tree.cells → new.tree.objects ≡ old.tree.objects → Stands m asks old →
    settle m ≡ goes (settled_from new c) (record m { tree = new.tree })
settled_well m asks old new c settles objects h =
    let by_world = subst (λ w. Settles w old.tree (Ok c) new.tree.cells) (worlds m asks old h) settles in
    let by_tree = subst (λ t. Settles (world_of m.units m.known) t (Ok c) new.tree.cells) (sym h.tree) by_world in
    own_ok m c new.tree.cells by_tree ∙
    ap (λ t. goes (settled_from new c) (record m { tree = t })) (tree_is m old new h.tree objects)

past_at : (m : Machine) (cell : CellNo) → IsLowestPast (fresh (world_of m.units m.known) m.tree) m.tree.cells cell →
    settle m ≡ stops (stop.Past (cell_site m.known cell)) m
past_at m cell h = ap (with_settled m) (stops_so (world_of m.units m.known) m.tree cell h)

-- where nothing has changed, the tree is as it was
same_tree : (m : Machine) (old new : Live) → m.tree ≡ old.tree → new.tree.objects ≡ old.tree.objects → new.tree.cells ≡ old.tree.cells → m.tree ≡ new.tree
same_tree m old new e objects cells =
    e ∙ ap (λ os. record { objects = os; cells = old.tree.cells }) (sym objects) ∙ ap (λ cs. record { objects = new.tree.objects; cells = cs }) (sym cells)

pub settled_badly : (m : Machine) (asks : ExprNo → Home → Ask) (old new : Live) (f : SettleFault) (answer : Fault) →
    Settles (world_around old asks) old.tree (Err f) new.tree.cells → new.tree.objects ≡ old.tree.objects → StopsAt old.known f answer → Stands m asks old →
    Fails answer (record m { tree = new.tree }) (settle m)
settled_badly m asks old new f fault.NoMemory settles objects why h = tt
settled_badly m asks old new settle_fault.NoMemory (fault.Stopped s) settles objects why h = elim why [ ]
settled_badly m asks old new (settle_fault.Past cell) (fault.Stopped s) (lowest, cells) objects why h =
    let by_world = subst (λ w. IsLowestPast (fresh w old.tree) old.tree.cells cell) (worlds m asks old h) lowest in
    let by_tree = subst (λ t. IsLowestPast (fresh (world_of m.units m.known) t) t.cells cell) (sym h.tree) by_world in
    past_at m cell by_tree ∙
    ap (λ k. stops (stop.Past (cell_site k cell)) m) h.known ∙
    ap (λ x. stops x m) (sym why) ∙
    ap (λ t. stops s (record m { tree = t })) (same_tree m old new h.tree objects cells)
