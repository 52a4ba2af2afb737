use Rattle.std.proofs.Common.{◌≡◌, drop, map}
use Rattle.instance_plans.specs.NamesMade.{script_made}
use Rattle.instance_plans.specs.Shaped.{each_put}
use Rattle.machine_begun.proofs.begun.put_scripts.Given as goal

abbrev pub invariant-scripts : goal.invariant-scripts
invariant-scripts l = each_put l.names (map script_made (drop l.script-index l.scripts)) ≡ each_put l.initial.names (map script_made l.scripts)
