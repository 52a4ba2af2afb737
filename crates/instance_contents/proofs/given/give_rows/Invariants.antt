use Rattle.std.proofs.Common.{◌≡◌, drop}
use Rattle.pair_table.specs.Pairs.{each_put}
use Rattle.instance_contents.specs.Sources.{sources_of_rows}
use Rattle.instance_contents.proofs.given.give_rows.Given as goal

abbrev pub invariant-rows : goal.invariant-rows
invariant-rows l = each_put l.table (sources_of_rows l.tables l.place l.at l.row (drop l.row l.values)) ≡ each_put l.initial.table (sources_of_rows l.tables l.place l.at 0 l.values)
