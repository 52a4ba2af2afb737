use Rattle.std.proofs.Common.{◌≡◌, drop}
use Rattle.pair_table.specs.Pairs.{each_put}
use Rattle.instance_contents.specs.Filling.{numbers_of}
use Rattle.instance_contents.proofs.tables.put_numbers.Given as goal

abbrev pub invariant-objects : goal.invariant-objects
invariant-objects l = each_put l.numbers (numbers_of l.place (drop l.at-index l.objects)) ≡ each_put l.initial.numbers (numbers_of l.place l.objects)
