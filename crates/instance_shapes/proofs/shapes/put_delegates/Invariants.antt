use Rattle.std.proofs.Common.{◌≡◌, drop}
use Rattle.instance_plans.specs.Shaped.{each_put}
use Rattle.instance_shapes.specs.Shapes.{cells_told}
use Rattle.instance_shapes.proofs.shapes.put_delegates.Given as goal

abbrev pub invariant-names : goal.invariant-names
invariant-names l = each_put l.names (cells_told l.number l.place (drop l.delegate-index l.delegates)) ≡ each_put l.initial.names (cells_told l.number l.from l.delegates)
