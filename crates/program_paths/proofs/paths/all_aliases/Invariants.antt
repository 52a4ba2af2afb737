use Rattle.std.proofs.Common.{take}
use Rattle.program_paths.specs.Paths.{AllAliases}
use Rattle.program_paths.proofs.paths.all_aliases.Given as goal

abbrev pub invariant-sources : goal.invariant-sources
invariant-sources l = AllAliases (take l.source-index l.sources) l.all.items
