use Rattle.std.proofs.Common.{drop, map}
use Rattle.unit_cycles.specs.Uses.{use_of, AllBelow}
use Rattle.unit_cycles.proofs.ranks.all_below.Given as goal

-- where what is left stands below, all does
abbrev pub invariant-uses : goal.invariant-uses
invariant-uses l = AllBelow l.ranks (map use_of (drop l.u-index l.uses)) l.rank → AllBelow l.ranks (map use_of l.uses) l.rank
