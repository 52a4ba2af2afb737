-- What putting a content does to the machine.
use Rattle.std.specs.Prelude.{◌≡◌}
use Rattle.qml_base.specs.declared.numbers.CellNo.{CellNo}
use Rattle.tree_model.specs.declared.cells.Content.{Content}
use Rattle.live_tree.specs.Live.{Live}
use Rattle.machine_model.specs.State.{Machine}
use Rattle.machine_model.specs.Emission.{with_put}

-- the machine with the content put has the tree as it is now
abbrev pub PutsIn : Machine → Live → Live → CellNo → Content → Type 0
PutsIn m old new c content = m.tree ≡ old.tree → with_put c content m ≡ record m { tree = new.tree }
