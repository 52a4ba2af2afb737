use Rattle.std.proofs.Common.{◌≡◌, ◌++◌, map, drop}
use Rattle.instance_shapes.specs.Shapes.{entry_told}
use Rattle.instance_shapes.proofs.shapes.members.Given as goal

abbrev pub invariant-objects : goal.invariant-objects
invariant-objects l = l.members ++ map (entry_told l.tables l.place l.instance l.delegates) (drop l.at-index l.fn.instance.objects) ≡ map (entry_told l.tables l.place l.instance l.delegates) l.fn.instance.objects
