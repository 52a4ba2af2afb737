use Rattle.std.proofs.Common.{◌+◌, length}
use Rattle.handled_signals.specs.Layers.{layers_at}
use Rattle.handled_signals.proofs.LayerLemmas.{Walks}
use Rattle.handled_signals.proofs.layers.object_layers.Given as goal

-- what was passed, with what is below, is all
abbrev pub invariant-layers : goal.invariant-layers
invariant-layers l =
    Walks (layers_at (length l.names.units.items + 1) l.names.units.items l.fn.document l.fn.object) l.objects.items
    (layers_at l.left l.names.units.items l.document l.object)

abbrev pub decreases-layers : goal.decreases-layers
decreases-layers l = l.left
