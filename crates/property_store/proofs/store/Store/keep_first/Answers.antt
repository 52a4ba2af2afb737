use Rattle.std.proofs.Common.{arith}
use Rattle.property_store.proofs.KeptLemmas.{kept_front}
use Rattle.property_store.proofs.store.Store.keep_first.Goals as goal

pub invariant_of-self : goal.invariant_of-self
invariant_of-self c =
    let shorter = c.truncate.ensures.len in
    let few = c.self.invariant.1 in
    (rw c.truncate.ensures.items (kept_front c.self.inside.starts.items c.self.inside.cells.items c.args.n c.self.invariant.0), omega arith)
