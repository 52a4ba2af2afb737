use Rattle.std.proofs.Common.{refl, sym}
use Rattle.machine_state.specs.Keeping.{machine_of}
use Rattle.machine_writes.proofs.WriteLemmas.{settled_older, settled_older_off}
use Rattle.machine_writes.proofs.writing.settle_and_tell_older.Goals as goal

pub returns-in-Err-clause-settles : goal.returns-in-Err-clause-settles
returns-in-Err-clause-settles g c below =
    let m = machine_of c.args.state.now in
    settled_older_off m c.settle.new.tree c.in-Err.fault c.args.given below (c.in-Err.ensures.settles m (record { tree = refl; known = refl; asks_so = c.requires.asks_so })) c.settle.ensures.given c.settle.ensures.known

pub returns-in-Ok-tell_settled-clause-settles : goal.returns-in-Ok-tell_settled-clause-settles
returns-in-Ok-tell_settled-clause-settles g c below =
    let m = machine_of c.args.state.now in
    settled_older m c.settle.new.tree c.in-Ok.all c.older-changed.result c.args.given c.tell_settled.new.trace.items below
    (c.in-Ok.ensures.settles m (record { tree = refl; known = refl; asks_so = c.requires.asks_so }))
    c.older-changed.ensures.cells c.older-changed.ensures.reports
    (c.in-Ok-tell_settled.ensures (record m { tree = c.settle.new.tree.tree }) (record { tree = refl; known = sym c.settle.ensures.known; trace_so = refl }))
    c.settle.ensures.given c.settle.ensures.known
