-- The tables that paths are looked up in.
use Rattle.std.specs.Prelude.{List}
use Rattle.program_tables.specs.declared.names.UnitNames.{UnitNames}
use Rattle.path_ends.specs.declared.aliases.UnitEnds.{UnitEnds}
use Rattle.handler_names.specs.declared.declared.UnitHandlers.{UnitHandlers}
use Rattle.change_targets.specs.declared.walking.UnitTargets.{UnitTargets}
use Rattle.value_purposes.specs.declared.tables.PathTables.{PathTables}

abbrev pub names_in : PathTables → List UnitNames
names_in t = t.names.now.units.items

abbrev pub handlers_in : PathTables → List UnitHandlers
handlers_in t = t.handlers.now

abbrev pub ends_in : PathTables → List UnitEnds
ends_in t = t.ends.now

abbrev pub targets_in : PathTables → List UnitTargets
targets_in t = t.targets.now
