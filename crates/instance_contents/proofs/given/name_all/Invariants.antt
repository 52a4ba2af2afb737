use Rattle.std.proofs.Common.{◌≡◌, drop}
use Rattle.pair_table.specs.Pairs.{each_put}
use Rattle.instance_contents.specs.Sources.{namings}
use Rattle.instance_contents.proofs.given.name_all.Given as goal

abbrev pub invariant-sources : goal.invariant-sources
invariant-sources l = each_put l.names (namings l.tables l.sources (drop l.i l.sources)) ≡ each_put l.initial.names (namings l.tables l.sources l.sources)
