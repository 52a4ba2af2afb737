use Rattle.property_store.proofs.DropLemmas.{IsPlacedBelow}
use Rattle.property_store.proofs.scrubbing.place_all.Given as goal

abbrev pub invariant-cells : goal.invariant-cells
invariant-cells l = IsPlacedBelow l.i l.starts l.cells
