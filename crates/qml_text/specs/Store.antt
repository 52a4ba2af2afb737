-- Where the units of a text stand.
use Rattle.std.specs.Prelude.{ℕ, ◌≤◌, List, take}
use Rattle.qml_text.specs.declared.store.Units.{Units}
use Rattle.qml_text.specs.declared.store.Units.TheVariants.{Few, Short, Long}

-- the units that are stored, in order
abbrev pub stored : Units → List ℕ
stored (Few len units) = take len units
stored (Short len units) = take len units.value
stored (Long block) = block.value.items

-- no more units are counted than there are places
abbrev pub IsSound : Units → Type 0
IsSound (Few len units) = len ≤ 7
IsSound (Short len units) = len ≤ 12
IsSound (Long block) = Unit {0}
