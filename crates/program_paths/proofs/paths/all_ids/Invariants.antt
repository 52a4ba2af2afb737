use Rattle.std.proofs.Common.{take}
use Rattle.program_paths.specs.Paths.{AllIds}
use Rattle.program_paths.proofs.paths.all_ids.Given as goal

abbrev pub invariant-sources : goal.invariant-sources
invariant-sources l = AllIds l.names.units.items 0 (take l.document l.sources) l.all.items
