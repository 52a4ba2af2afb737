use Rattle.std.proofs.Common.{◌≡◌, ◌+◌, length}
use Rattle.handler_names.specs.Handlers.{handled_at}
use Rattle.handler_names.proofs.walking.is_handler.Given as goal

abbrev pub invariant-layers : goal.invariant-layers
invariant-layers l =
    handled_at l.left l.names.units.items l.handlers l.document l.object l.name ≡
    handled_at (length l.names.units.items + 1) l.names.units.items l.handlers l.fn.document l.fn.object l.name

abbrev pub decreases-layers : goal.decreases-layers
decreases-layers l = l.left
