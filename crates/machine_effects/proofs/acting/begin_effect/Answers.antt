use Rattle.std.proofs.Common.{◌≡◌, subst, sym, List}
use Rattle.qml_value.specs.declared.value.Value.{Value}
use Rattle.evaluation.specs.declared.effect.Effect.{Effect}
use Rattle.machine_model.specs.Bodies.{act, call_method}
use Rattle.machine_state.specs.Keeping.{machine_of}
use Rattle.machine_state.specs.Leading.{Leads}
use Rattle.machine_effects.specs.Acting.{left_of}
use Rattle.machine_effects.proofs.acting.begin_effect.Goals as goal

pub returns-in-Write-clause-acts : goal.returns-in-Write-clause-acts
returns-in-Write-clause-acts g c below =
    subst (λ (e : Effect). Leads (act below e (machine_of c.args.state.now)) c.assign.result (left_of below) (machine_of c.assign.new.state)) (sym c.in-Write.is)
    (c.assign.ensures.puts below)

pub returns-in-Rebind-clause-acts : goal.returns-in-Rebind-clause-acts
returns-in-Rebind-clause-acts g c below =
    subst (λ (e : Effect). Leads (act below e (machine_of c.args.state.now)) c.rebind.result (left_of below) (machine_of c.rebind.new.state)) (sym c.in-Rebind.is)
    (c.rebind.ensures.puts below)

pub returns-clause-acts : goal.returns-clause-acts
returns-clause-acts g c below =
    let m = machine_of c.args.state.now in
    let n = machine_of c.call.new.state in
    subst (λ (e : Effect). Leads (act below e m) c.call.result (left_of below) n) (sym c.in-Call.is)
    (subst (λ (xs : List Value). Leads (call_method below c.in-Call.v c.in-Call.field-1 xs m) c.call.result (left_of below) n) c.values.ensures (c.call.ensures.calls below c.in-Call.field-1))
