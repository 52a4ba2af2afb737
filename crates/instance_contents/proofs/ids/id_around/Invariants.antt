use Rattle.std.proofs.Common.{◌≡◌, ◌+◌, length}
use Rattle.instance_plans.specs.Contents.{id_around}
use Rattle.instance_contents.proofs.ids.id_around.Given as goal

abbrev pub invariant-outwards : goal.invariant-outwards
invariant-outwards l = id_around l.left l.shapes.known l.unit l.root l.name ≡ id_around (length l.shapes.known.instances + 1) l.shapes.known l.unit l.fn.root l.name

abbrev pub decreases-outwards : goal.decreases-outwards
decreases-outwards l = l.left
