use Rattle.std.proofs.Common.{◌∙◌, ap, refl}
use Rattle.tree_model.specs.Settling.{place_of}
use Rattle.property_store.specs.Stores.{with_outcome}
use Rattle.property_store.proofs.KeptLemmas.{set_there, kept_there}
use Rattle.property_store.proofs.store.Store.put_outcome.Goals as goal

pub invariant_of-self : goal.invariant_of-self
invariant_of-self c = (kept_there c.self.inside.cells.items c.args.self.now c.args.c c.find-at.result c.index_mut.result.now c.self.view_is (c.find-at.ensures ∙ ap (λ cells. place_of cells c.args.c) c.as_slice-2.ensures.value) c.requires c.index_mut.ensures.value c.self.inside.starts.items _ refl c.self.invariant.0, c.self.invariant.1)

pub returns : goal.returns
returns c = λ cell there. set_there c.self.inside.cells.items c.args.self.now c.args.c c.find-at.result c.index_mut.result.now c.self.view_is (c.find-at.ensures ∙ ap (λ cells. place_of cells c.args.c) c.as_slice-2.ensures.value) c.requires c.index_mut.ensures.value (λ k. with_outcome k c.args.o) _ cell refl there
