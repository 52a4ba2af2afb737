use Rattle.std.proofs.Common.{◌≡◌, drop}
use Rattle.pair_table.specs.Pairs.{each_put}
use Rattle.instance_contents.specs.Filling.{numbers_from}
use Rattle.instance_contents.proofs.tables.put_all_numbers.Given as goal

abbrev pub invariant-instances : goal.invariant-instances
invariant-instances l = each_put l.numbers (numbers_from l.k (drop l.k l.instances)) ≡ each_put l.initial.numbers (numbers_from 0 l.instances)
