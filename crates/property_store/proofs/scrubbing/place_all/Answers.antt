use Rattle.std.proofs.Common.{◌<◌, length, arith, slice_index_or}
use Rattle.property_store.proofs.KeptLemmas.{get_of}
use Rattle.property_store.proofs.DropLemmas.{placed_first, placed_later, placed_all}
use Rattle.property_store.proofs.scrubbing.place_all.Goals as goal
use Rattle.property_store.proofs.scrubbing.place_all.Goals.{then-cells-i-eq0, else-cells-i-eq0}

pub cells-preserved : goal.cells-preserved
cells-preserved c =
    let inside : c.cells.i < length c.args.cells.now = omega arith in
    let cell = slice_index_or c.args.cells.now c.cells.i c.index-cells-i.result in
    let there = get_of c.args.cells.now c.cells.i c.index-cells-i.result inside in
    elim c.if-cells-i-eq0.branch [
      | then-cells-i-eq0 w ↦ rw w.starts-is (placed_first c.cells.starts c.args.cells.now c.cells.i w.object_of-object.result cell c.requires.ordered there w.if-cells-i-eq0.true (w.object_of-object.ensures.at cell there) w.object_of-object.ensures.within c.cells.invariant)
      | else-cells-i-eq0 w ↦ rw w.starts-is (placed_later c.cells.starts c.args.cells.now c.cells.i cell c.requires.ordered there w.if-cells-i-eq0.false c.cells.invariant)
    ]

pub returns : goal.returns
returns c = placed_all c.cells.starts c.args.cells.now c.cells.i (omega arith) c.cells.invariant
