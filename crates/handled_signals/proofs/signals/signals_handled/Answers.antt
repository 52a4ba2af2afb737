use Rattle.handled_signals.specs.Handled.{seen}
use Rattle.handled_signals.proofs.FoundLemmas.{layer_added}
use Rattle.handled_signals.proofs.signals.signals_handled.Goals as goal

pub layers-preserved : goal.layers-preserved
layers-preserved c =
    layer_added c.args.tables.now.names.now.units.items c.args.tables.now.documents.now c.args.tables.now.signals.now c.args.handler.now c.layers.left.items c.pop.new.self.items
    c.in-Some.at (seen c.layers.found) (seen c.in_ok-found-2.found) _ c.in-Some.ensures.items c.in_ok-found-2.ensures c.layers.invariant
