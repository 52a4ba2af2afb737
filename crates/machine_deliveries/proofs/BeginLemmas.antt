-- What is told and counted first, and a handler that begins.
use Rattle.std.proofs.Common.{◌≡◌, ◌∙◌, ap, sym, refl, ℕ, List}
use Rattle.qml_base.specs.declared.numbers.ObjNo.{ObjNo}
use Rattle.qml_base.specs.declared.numbers.ExprNo.{ExprNo}
use Rattle.qml_base.specs.declared.names.Home.{Home}
use Rattle.qml_syntax.specs.Tree.{Units}
use Rattle.qml_value.specs.declared.value.Value.{Value}
use Rattle.evaluation.specs.Ask.{Ask}
use Rattle.js_meaning.specs.Resuming.{Action, next_action}
use Rattle.trace_print.specs.declared.entry.Entry.{Entry}
use Rattle.trace_print.specs.declared.entry.Entry.TheVariants as entry
use Rattle.unit_rows.specs.Seen.{all_seen}
use Rattle.machine_model.specs.Texts.{body_asks}
use Rattle.machine_model.specs.State.{Machine, runs}
use Rattle.machine_model.specs.Acts.{goes, then_go}
use Rattle.machine_model.specs.Emission.{Below}
use Rattle.machine_model.specs.Reactions.{react}
use Rattle.machine_model.specs.Bodies.{exec, exec_next}
use Rattle.machine_model.specs.Levels.{do_deed, home_of, handler_site}
use Rattle.machine_model.proofs.BodyLemmas.{goes_by_action}
use Rattle.machine_state.specs.declared.state.State.{State}
use Rattle.machine_state.specs.Keeping.{machine_of}
use Rattle.machine_bodies.specs.Doing.{sight_of}
use Rattle.machine_deliveries.specs.Fitting.{BodyAsks}
use Rattle.machine_deliveries.specs.Doing.{tell_and_spend, told_reaction, told_deed}

pub then_reacts : (e : Entry) (o : ObjNo) (m n k : Machine) → tell_and_spend e m ≡ goes tt n → react o n ≡ goes tt k → told_reaction e o m ≡ goes tt k
then_reacts e o m n k told reacts = ap (λ r. then_go r (λ _. react o)) told ∙ reacts

pub begun_handler : (below : Below) (s : State) (m : Machine) (e : Entry) (o : ObjNo) (handler : Units) (body : ExprNo) (home : Home) (names : List Units) (args : List Value) (asks : BodyAsks) (next : Action)
    → tell_and_spend e m ≡ goes tt (machine_of s) → asks ≡ body_asks (all_seen s.units.now) → home ≡ home_of body o
    → next ≡ next_action (sight_of s.tree) (asks body home names args)
    → told_deed below e o (runs handler body names args) m ≡ exec_next below (handler_site o handler) next (machine_of s)
begun_handler below s m e o handler body home names args asks next told as' at is =
    let n = machine_of s in
    let at_home = body_asks n.units body (home_of body o) names args in
    ap (λ r. then_go r (λ _. do_deed below o (runs handler body names args))) told
    ∙ goes_by_action below (handler_site o handler) at_home n
    ∙ ap (λ (x : Action). exec_next below (handler_site o handler) x n)
    (ap (λ h. next_action (sight_of s.tree) (body_asks n.units body h names args)) (sym at)
    ∙ ap (λ (f : BodyAsks). next_action (sight_of s.tree) (f body home names args)) (sym as')
    ∙ sym is)
