use Rattle.binding_bodies.proofs.PutLemmas.{put_on}
use Rattle.binding_bodies.proofs.behind.all_behind.Goals as goal

pub calls-preserved : goal.calls-preserved
calls-preserved c =
    put_on c.calls.call-index c.args.calls.now _ c.args.rows.now.items c.calls.rows.items c.put_behind.new.rows.items c.calls.bindings.items
    c.put_behind.new.bindings.items c.calls-test.true c.calls.invariant c.in_ok-put_behind.ensures
