use Rattle.std.proofs.Common.{◌<◌, ◌∙◌, ap, refl, sym, length, arith, get_or, ◌≡◌}
use Rattle.tree_settling.specs.Tables.{spare_needed}
use Rattle.tree_settling.proofs.TakingLemmas.{ready_later, spare_first, spares_long}
use Rattle.tree_settling.proofs.taking.take_all.Goals as goal

pub take_entry-requires-clause-ready : goal.take_entry-requires-clause-ready
take_entry-requires-clause-ready c = λ none.
    let inside : c.loop-i.i < length c.loop-i.cells = omega arith in
    let also : c.loop-i.i < length c.loop-i.table = omega arith in
    ready_later c.args.cells.now c.loop-i.cells c.args.table.now c.loop-i.table c.loop-i.i c.index-cells-i.result c.index-table-i.result inside also c.requires.ready c.loop-i.invariant.later c.loop-i.invariant.entries (sym c.take-entry.ensures.value ∙ none)

pub take_entry-requires-clause-spare : goal.take_entry-requires-clause-spare
take_entry-requires-clause-spare c =
    let inside : c.loop-i.i < length c.loop-i.cells = omega arith in
    let also : c.loop-i.i < length c.loop-i.table = omega arith in
    let many : length c.loop-i.spares ≡ length c.loop-i.cells = c.loop-i.invariant.many in
    let there : c.loop-i.i < length c.loop-i.spares = omega arith in
    c.take-spare.ensures.value ∙ spare_first c.loop-i.cells c.loop-i.table c.loop-i.spares c.loop-i.i c.index-cells-i.result c.index-table-i.result c.index-spares-i.result inside also there c.loop-i.invariant.spares ∙ ap (spare_needed (get_or c.loop-i.cells c.loop-i.i c.index-cells-i.result)) (sym c.take-entry.ensures.value)

pub loop-i-init : goal.loop-i-init
loop-i-init c = record {
  cells = refl;
  later = refl;
  entries = refl;
  spares = c.requires.spares;
  many = spares_long c.args.cells.now c.args.table.now c.args.spares.now c.requires.long c.requires.spares;
}
