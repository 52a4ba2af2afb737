use Rattle.std.proofs.Common.{◌≡◌, ◌∙◌, ap, subst}
use Rattle.js_meaning.specs.Resuming.{next_action}
use Rattle.trace_print.specs.declared.entry.Entry.TheVariants as entry
use Rattle.machine_model.specs.Acts.{goes}
use Rattle.machine_state.specs.Keeping.{machine_of}
use Rattle.machine_bodies.specs.Doing.{sight_of, action_meant}
use Rattle.machine_deliveries.specs.Doing.{tell_and_spend}
use Rattle.machine_deliveries.proofs.BeginLemmas.{begun_handler}
use Rattle.machine_deliveries.proofs.beginning.begin_handler.Goals as goal

pub returns-clause-begins : goal.returns-clause-begins
returns-clause-begins g c below =
    let s = c.tell_and_spend.new.state in
    let m = machine_of c.args.state.now in
    let asks = g.B.Bodies.asks c.args.engine.now.bodies in
    let told = subst (λ h. tell_and_spend (entry.Call c.args.o h) m ≡ goes tt (machine_of s)) c.in_ok-told.ensures c.in_ok-tell_and_spend.ensures.told in
    let fits = c.tell_and_spend.ensures.fits (g.R.Rules.asks c.args.engine.now.rules) asks c.requires.fits in
    begun_handler below s m (entry.Call c.args.o c.args.handler) c.args.o c.args.handler c.args.body c.home_of-home.result c.args.names.items c.args.args.items asks
    (action_meant g.B.Bodies.goes_on g.B.Bodies.left c.in_ok-action.action) told fits.bodies_so c.home_of-home.ensures
    (c.in_ok-action.ensures.next ∙ ap (λ ns. next_action (sight_of s.tree) (asks c.args.body c.home_of-home.result ns c.args.args.items)) c.as_slice.ensures.value)
