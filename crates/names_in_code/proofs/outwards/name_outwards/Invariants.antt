use Rattle.std.proofs.Common.{◌≡◌, ◌+◌, length}
use Rattle.names_in_code.specs.Outwards.{outwards}
use Rattle.names_in_code.proofs.outwards.name_outwards.Given as goal

abbrev pub invariant-components : goal.invariant-components
invariant-components l =
    outwards l.left l.names.units.items l.ids l.objects l.rows l.document l.scope l.object l.name ≡
    outwards (length l.objects + 1) l.names.units.items l.ids l.objects l.rows l.document l.fn.scope l.fn.object l.name

abbrev pub decreases-components : goal.decreases-components
decreases-components l = l.left
