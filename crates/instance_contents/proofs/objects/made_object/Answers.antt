use Rattle.instance_contents.proofs.ObjectLemmas.{object_is}
use Rattle.instance_contents.proofs.objects.made_object.Goals as goal

pub returns : goal.returns
returns c =
    object_is c.args.tables.now c.args.x c.args.delegates.now c.own_delegates-own.result.now c.in_ok-shown.shown c.in_ok-types.types.items c.in_ok-cells.cells.items c.starts.result
    c.in_ok-shown.ensures c.in_ok-types.ensures c.in_ok-cells.ensures c.own_delegates-own.ensures c.starts.ensures
