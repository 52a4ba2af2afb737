use Rattle.property_store.specs.Stores.{NoneNoted}
use Rattle.property_store.proofs.scrubbing.next_noted.Given as goal

abbrev pub invariant-cells : goal.invariant-cells
invariant-cells l = NoneNoted l.cells l.from l.i
