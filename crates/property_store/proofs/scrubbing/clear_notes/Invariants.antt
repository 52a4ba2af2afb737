use Rattle.std.proofs.Common.{◌≡◌, ◌++◌, map, take, drop}
use Rattle.property_store.specs.Stores.{without_note}
use Rattle.property_store.proofs.scrubbing.clear_notes.Given as goal

abbrev pub invariant-cells : goal.invariant-cells
invariant-cells l = take l.i l.cells ++ map without_note (drop l.i l.cells) ≡ map without_note l.initial.cells
