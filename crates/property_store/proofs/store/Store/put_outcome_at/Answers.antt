use Rattle.std.proofs.Common.{◌≡◌, ap, refl, length, ◌<◌, arith}
use Rattle.property_store.specs.Stores.{with_outcome}
use Rattle.property_store.proofs.KeptLemmas.{kept_at, set_at}
use Rattle.property_store.proofs.store.Store.put_outcome_at.Goals as goal

pub invariant_of-self : goal.invariant_of-self
invariant_of-self c =
    let same : length c.self.inside.cells.items ≡ length c.args.self.now = ap length c.self.view_is in
    let inside : c.args.at < length c.args.self.now = c.requires in
    (kept_at c.self.inside.starts.items c.self.inside.cells.items c.args.at c.index_mut.result.now _ (omega arith) c.index_mut.ensures.value refl c.self.invariant.0, c.self.invariant.1)

pub returns : goal.returns
returns c = λ cell there. set_at c.self.inside.cells.items c.args.self.now c.args.at c.index_mut.result.now cell (λ k. with_outcome k c.args.o) c.self.view_is c.requires c.index_mut.ensures.value there
