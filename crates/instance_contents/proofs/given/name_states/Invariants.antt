use Rattle.std.proofs.Common.{◌≡◌, drop}
use Rattle.pair_table.specs.Pairs.{each_put}
use Rattle.instance_contents.specs.Sources.{namings_from}
use Rattle.instance_contents.proofs.given.name_states.Given as goal

abbrev pub invariant-objects : goal.invariant-objects
invariant-objects l = each_put l.names (namings_from l.tables l.sources l.place l.next (drop l.o-index l.objects)) ≡ each_put l.initial.names (namings_from l.tables l.sources l.place 1 l.objects)
