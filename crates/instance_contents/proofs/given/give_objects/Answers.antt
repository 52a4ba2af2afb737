use Rattle.std.proofs.Common.{◌∙◌, ◌<◌, length, arith}
use Rattle.instance_contents.proofs.LookLemmas.{objects_more}
use Rattle.instance_contents.proofs.given.give_objects.Goals as goal

pub objects-preserved : goal.objects-preserved
objects-preserved c =
    let less : c.objects.at-index < length c.args.objects.now = omega (arith, c.objects-test.true) in
    objects_more c.args.tables.now c.args.place c.args.instance.now c.args.objects.now c.objects.at-index c.objects.table c.give_object.new.table less c.in_ok-give_object.ensures ∙ c.objects.invariant
