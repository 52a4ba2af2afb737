use Rattle.std.proofs.Common.{ap, ◌<◌, length, slice_index_or, arith}
use Rattle.tree_model.specs.declared.cells.Cell.{Cell}
use Rattle.property_store.proofs.KeptLemmas.{get_of, one_of}
use Rattle.property_store.proofs.ScrubLemmas.{none_noted_more}
use Rattle.property_store.proofs.scrubbing.next_noted.Goals as goal

pub returns-then-cells-i : goal.returns-then-cells-i
returns-then-cells-i c =
    let inside : c.cells.i < length c.args.cells.now = omega arith in
    let x = slice_index_or c.args.cells.now c.cells.i c.index-cells-i.result in
    (omega arith, c.cells.invariant, (x, (get_of c.args.cells.now c.cells.i c.index-cells-i.result inside, c.if-cells-i.true, ap (λ (e : Cell). e.no) (one_of c.args.cells.now c.cells.i _ _ inside))))

pub cells-preserved : goal.cells-preserved
cells-preserved c =
    let inside : c.cells.i < length c.args.cells.now = omega arith in
    none_noted_more c.args.cells.now c.args.from c.cells.i (slice_index_or c.args.cells.now c.cells.i c.index-cells-i.result) c.cells.invariant (get_of c.args.cells.now c.cells.i c.index-cells-i.result inside) c.if-cells-i.false
