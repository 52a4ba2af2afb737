use Rattle.std.proofs.Common.{subst}
use Rattle.js_locals.specs.Laid.{laid}
use Rattle.binding_bodies.specs.Behind.{AreCalls, ArePut}
use Rattle.binding_bodies.proofs.WholeLemmas.{made_bodies}
use Rattle.binding_bodies.proofs.behind.unit_bodies.Goals as goal

pub returns : goal.returns
returns c =
    made_bodies c.args.tree c.args.written.items c.all_behind.new.rows.items c.in_ok-calls.calls.items c.in_ok-bindings.bindings.items c.in_ok-bodies.bodies
    (subst (λ z. AreCalls (laid c.args.tree) z c.in_ok-calls.calls.items) c.as_slice.ensures.value c.in_ok-calls.ensures)
    (subst (λ z. ArePut z c.args.written.items c.all_behind.new.rows.items c.in_ok-bindings.bindings.items) c.as_slice-2.ensures.value c.in_ok-bindings.ensures)
    c.in_ok-bodies.ensures
