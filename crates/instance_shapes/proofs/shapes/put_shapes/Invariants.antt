use Rattle.std.proofs.Common.{◌≡◌, ◌++◌, drop}
use Rattle.instance_shapes.specs.Shapes.{shapes_told}
use Rattle.instance_shapes.proofs.shapes.put_shapes.Given as goal

abbrev pub invariant-instances : goal.invariant-instances
invariant-instances l =
    l.shapes.items ++ shapes_told l.tables l.delegates l.place l.names (drop l.place l.instances)
    ≡ l.initial.shapes.items ++ shapes_told l.tables l.delegates 0 l.fn.first l.instances
