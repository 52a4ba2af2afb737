use Rattle.std.proofs.Common.{◌≡◌, drop}
use Rattle.pair_table.specs.Pairs.{each_put}
use Rattle.instance_contents.specs.Sources.{sources_of_instance}
use Rattle.instance_contents.proofs.given.give_objects.Given as goal

abbrev pub invariant-objects : goal.invariant-objects
invariant-objects l = each_put l.table (sources_of_instance l.tables l.place l.instance (drop l.at-index l.objects)) ≡ each_put l.initial.table (sources_of_instance l.tables l.place l.instance l.objects)
