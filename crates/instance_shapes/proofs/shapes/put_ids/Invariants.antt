use Rattle.std.proofs.Common.{◌≡◌, drop}
use Rattle.instance_plans.specs.Shaped.{each_put}
use Rattle.instance_shapes.specs.Shapes.{ids_told}
use Rattle.instance_shapes.proofs.shapes.put_ids.Given as goal

abbrev pub invariant-ids : goal.invariant-ids
invariant-ids l = each_put l.ids (ids_told l.tables l.place (drop l.id-index l.written)) ≡ each_put l.initial.ids (ids_told l.tables l.place l.written)
