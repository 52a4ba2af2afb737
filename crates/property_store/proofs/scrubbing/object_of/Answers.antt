use Rattle.std.proofs.Common.{◌≡◌, ◌∙◌, ap, sym, slice_index_or, Some}
use Rattle.tree_model.specs.declared.cells.Cell.{Cell}
use Rattle.property_store.proofs.KeptLemmas.{get_of, below_at}
use Rattle.property_store.proofs.scrubbing.object_of.Goals as goal

pub returns-clause-within : goal.returns-clause-within
returns-clause-within c = below_at c.args.given c.args.cells.now c.args.i (slice_index_or c.args.cells.now c.args.i c.index-cells-i.result) c.requires.below (get_of c.args.cells.now c.args.i c.index-cells-i.result c.requires.within)

pub returns-clause-at : goal.returns-clause-at
returns-clause-at c = λ cell at.
    let both : Some (slice_index_or c.args.cells.now c.args.i c.index-cells-i.result) ≡ Some cell = sym (get_of c.args.cells.now c.args.i c.index-cells-i.result c.requires.within) ∙ at in
    let same : slice_index_or c.args.cells.now c.args.i c.index-cells-i.result ≡ cell = cc in
    ap (λ (k : Cell). k.no.object.0) same
