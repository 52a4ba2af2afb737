use Rattle.std.proofs.Common.{◌≡◌, drop}
use Rattle.pair_table.specs.Pairs.{each_put}
use Rattle.instance_contents.specs.Sources.{sources_from}
use Rattle.instance_contents.proofs.given.give_instances.Given as goal

abbrev pub invariant-instances : goal.invariant-instances
invariant-instances l = each_put l.table (sources_from l.tables l.k (drop l.k l.instances)) ≡ each_put l.initial.table (sources_from l.tables 0 l.instances)
