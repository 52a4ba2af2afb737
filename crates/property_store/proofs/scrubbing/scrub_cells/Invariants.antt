use Rattle.std.proofs.Common.{◌≡◌, ◌++◌, map, take, drop}
use Rattle.tree_model.specs.Removing.{scrubbed_cell}
use Rattle.property_store.specs.Spares.{AllLeft}
use Rattle.property_store.proofs.scrubbing.scrub_cells.Given as goal

abbrev pub invariant-cells : goal.invariant-cells
invariant-cells l = record {
  done : take l.i l.cells ++ map (scrubbed_cell l.gone) (drop l.i l.cells) ≡ map (scrubbed_cell l.gone) l.initial.cells;
  left : AllLeft l.gone (drop l.i l.cells);
}
