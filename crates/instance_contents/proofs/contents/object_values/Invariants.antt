use Rattle.std.proofs.Common.{◌≡◌, ◌++◌, drop}
use Rattle.std.specs.List.{filter_map}
use Rattle.instance_plans.specs.Contents.{numbered_value}
use Rattle.instance_contents.specs.Tables.{rows_in, live_in, plan_in, placed}
use Rattle.instance_contents.proofs.contents.object_values.Given as goal

abbrev pub invariant-objects : goal.invariant-objects
invariant-objects l = l.values.items ++ filter_map (numbered_value (rows_in l.tables) (live_in l.tables) (plan_in l.tables) (placed l.tables l.place)) (drop l.o-index l.objects) ≡ filter_map (numbered_value (rows_in l.tables) (live_in l.tables) (plan_in l.tables) (placed l.tables l.place)) l.objects
