use Rattle.std.proofs.Common.{◌∙◌, ap}
use Rattle.tree_model.specs.Settling.{place_of}
use Rattle.tree_model.specs.declared.cells.Cell.{Cell}
use Rattle.property_store.specs.Stores.{with_content}
use Rattle.property_store.proofs.KeptLemmas.{set_there, same_cell_there, kept_there}
use Rattle.property_store.proofs.store.Store.replace.Goals as goal

pub invariant_of-self : goal.invariant_of-self
invariant_of-self c = (kept_there c.self.inside.cells.items c.args.self.now c.args.c c.find-at.result c.index_mut.result.now c.self.view_is (c.find-at.ensures ∙ ap (λ cells. place_of cells c.args.c) c.as_slice-2.ensures.value) c.requires c.index_mut.ensures.value c.self.inside.starts.items c.replace.new.cell (ap (λ (k : Cell). k.no) c.replace.ensures.new) c.self.invariant.0, c.self.invariant.1)

pub returns-clause-new : goal.returns-clause-new
returns-clause-new c = λ cell there. set_there c.self.inside.cells.items c.args.self.now c.args.c c.find-at.result c.index_mut.result.now c.self.view_is (c.find-at.ensures ∙ ap (λ cells. place_of cells c.args.c) c.as_slice-2.ensures.value) c.requires c.index_mut.ensures.value (λ k. with_content k c.args.content) c.replace.new.cell cell c.replace.ensures.new there

pub returns-clause-old : goal.returns-clause-old
returns-clause-old c = λ cell there. c.replace.ensures.old ∙ ap (λ (k : Cell). k.content) (same_cell_there c.self.inside.cells.items c.args.self.now c.args.c c.find-at.result c.index_mut.result.now c.self.view_is (c.find-at.ensures ∙ ap (λ cells. place_of cells c.args.c) c.as_slice-2.ensures.value) c.requires c.index_mut.ensures.value cell there)
