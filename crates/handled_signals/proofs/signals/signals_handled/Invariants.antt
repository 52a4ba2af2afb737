use Rattle.std.proofs.Common.{◌≡◌, ◌+◌, length}
use Rattle.handled_signals.specs.Layers.{layers_at}
use Rattle.handled_signals.specs.Handled.{seen, found_in_type, with_layers}
use Rattle.handled_signals.proofs.signals.signals_handled.Given as goal

-- what was found, with what the layers that are left have, is all
abbrev pub invariant-layers : goal.invariant-layers
invariant-layers l =
    with_layers l.tables.names.now.units.items l.tables.documents.now l.tables.signals.now l.handler l.left.items (seen l.found) ≡
    with_layers l.tables.names.now.units.items l.tables.documents.now l.tables.signals.now l.handler
    (layers_at (length l.tables.names.now.units.items + 1) l.tables.names.now.units.items l.document l.object).objects
    (found_in_type (layers_at (length l.tables.names.now.units.items + 1) l.tables.names.now.units.items l.document l.object).base l.handler)

abbrev pub decreases-layers : goal.decreases-layers
decreases-layers l = length l.left.items
