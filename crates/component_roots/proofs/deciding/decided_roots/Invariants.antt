use Rattle.std.proofs.Common.{◌≡◌, ◌++◌, drop, map, Some}
use Rattle.component_roots.specs.Deciding.{decisions}
use Rattle.component_roots.proofs.deciding.decided_roots.Given as goal

abbrev pub invariant-objects : goal.invariant-objects
invariant-objects l =
    map Some l.decided.items ++ decisions l.names.units.items l.document l.rows l.object (drop l.object l.objects) ≡
    decisions l.names.units.items l.document l.rows 0 l.objects
