use Rattle.std.proofs.Common.{◌≡◌, drop}
use Rattle.pair_table.specs.Pairs.{each_put}
use Rattle.instance_contents.specs.Filling.{roots_from}
use Rattle.instance_contents.proofs.tables.put_roots.Given as goal

abbrev pub invariant-instances : goal.invariant-instances
invariant-instances l = each_put l.roots (roots_from l.k (drop l.k l.instances)) ≡ each_put l.initial.roots (roots_from 0 l.instances)
