-- What settling answers, and what it leaves.
use Rattle.std.specs.Prelude.{◌≡◌, Result, Ok, Err, List}
use Rattle.tree_model.specs.declared.cells.Cell.{Cell}
use Rattle.tree_model.specs.Rules.{World}
use Rattle.tree_model.specs.Settling.{Tree, fresh, settled, NonePast, IsLowestPast}
use Rattle.tree_model.specs.Telling.{Changes, Reports}
use Rattle.tree_settling.specs.declared.settling.Changed.{Changed}
use Rattle.tree_settling.specs.declared.settling.SettleFault.{SettleFault}
use Rattle.tree_settling.specs.declared.settling.SettleFault.TheVariants.{Past, NoMemory}

-- Ok: no cell is past the limit, the cells are the settled ones, and what is told is what differs. Past: the lowest cell
-- past the limit is named. After any fault nothing has changed.
abbrev pub Settles : World → Tree → Result Changed SettleFault → List Cell → Type 0
Settles world tree (Ok c) new = NonePast (fresh world tree) tree.cells × (new ≡ settled world tree) × Changes tree.cells new c.cells.items × Reports tree.cells new c.reports.items
Settles world tree (Err (Past cell)) new = IsLowestPast (fresh world tree) tree.cells cell × (new ≡ tree.cells)
Settles world tree (Err NoMemory) new = new ≡ tree.cells
