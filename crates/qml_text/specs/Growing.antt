-- Where the units of a text under way stand.
use Rattle.std.specs.Prelude.{ℕ, List}
use Rattle.qml_text.specs.declared.building.Grown.{Grown}
use Rattle.qml_text.specs.declared.building.Grown.TheVariants.{Few, Many}

-- the units that are there, in order
abbrev pub grown : Grown → List ℕ
grown (Few units) = units
grown (Many units) = units.items
