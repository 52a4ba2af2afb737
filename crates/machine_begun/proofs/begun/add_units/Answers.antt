use Rattle.std.proofs.Common.{◌∙◌, ◌<◌, length, arith}
use Rattle.machine_begun.proofs.BegunLemmas.{units_more}
use Rattle.machine_begun.proofs.begun.add_units.Goals as goal

pub units-preserved : goal.units-preserved
units-preserved c =
    let before = c.units.invariant in
    let less : c.units.u < length c.args.units.now = omega (arith, c.units-test.true) in
    record {
      tree = c.in_ok-add_shape.ensures.tree ∙ before.tree;
      given = c.in_ok-add_shape.ensures.given ∙ before.given;
      instances = units_more c.args.units.now c.units.u c.index-units-u.result c.units.tree.known.instances c.add_shape.new.self.known.instances c.in_ok-shape.shape
          c.index-units-u.is less c.in_ok-add_shape.ensures.ok c.in_ok-shape.ensures ∙ before.instances;
      told = c.in_ok-add_shape.ensures.told ∙ before.told;
      knows = λ asks h. c.in_ok-add_shape.ensures.knows asks (before.knows asks h);
    }
