use Rattle.std.proofs.Common.{◌≡◌, take, map}
use Rattle.program_tables.specs.Building.{nothing_declared}
use Rattle.program_tables.proofs.building.nothing.Given as goal

abbrev pub invariant-bases : goal.invariant-bases
invariant-bases l = l.objects.items ≡ map nothing_declared (take l.base-index l.bases)
