-- What settling answers, and what it leaves.
use Rattle.std.specs.Prelude.{◌≡◌}
use Rattle.std.specs.declared.result.Result.{Result}
use Rattle.std.specs.declared.result.Result.TheVariants.{Ok, Err}
use Rattle.qml_model.specs.Settling.{State, settled, changed}
use Rattle.first_tree.specs.declared.tree.Changed.{Changed}
use Rattle.first_tree.specs.declared.tree.SettleFault.{SettleFault}
use Rattle.first_tree.specs.declared.tree.SettleFault.TheVariants.{Past, NoMemory}

-- Ok: all values are the settled ones, the contents stay, and the cells are those that changed.
-- Past: there is no settled tree, and this is the cell that is named. After any fault nothing has changed.
abbrev pub Settles : State → Result Changed SettleFault → State → Type 0
Settles old (Ok c) new = (settled old ≡ Ok new.values) × (new.contents ≡ old.contents) × (c.cells ≡ changed old.values new.values)
Settles old (Err (Past cell)) new = (settled old ≡ Err cell) × (new ≡ old)
Settles old (Err NoMemory) new = new ≡ old
