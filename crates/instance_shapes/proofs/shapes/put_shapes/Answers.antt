use Rattle.std.proofs.Common.{◌∙◌, ◌<◌, length, arith}
use Rattle.instance_shapes.proofs.ShapeLemmas.{shapes_more}
use Rattle.instance_shapes.proofs.shapes.put_shapes.Goals as goal

pub instances-preserved : goal.instances-preserved
instances-preserved c =
    let less : c.instances.place < length c.args.instances.now = omega (arith, c.instances-test.true) in
    shapes_more c.args.tables.now c.args.delegates c.instances.place c.instances.names c.new-names.result c.args.instances.now c.index-instances-place.result c.instances.shapes.items c.push.new.self.items c.in_ok-shape.shape
    c.index-instances-place.is less c.in_ok-push.ensures.items c.in_ok-shape.ensures c.new-names.ensures ∙ c.instances.invariant
