use Rattle.std.proofs.Common.{◌≡◌, drop, map}
use Rattle.instance_plans.specs.NamesMade.{function_made}
use Rattle.instance_plans.specs.Shaped.{each_put}
use Rattle.machine_begun.proofs.begun.put_functions.Given as goal

abbrev pub invariant-functions : goal.invariant-functions
invariant-functions l = each_put l.names (map (function_made l.u) (drop l.function-index l.functions)) ≡ each_put l.initial.names (map (function_made l.u) l.functions)
