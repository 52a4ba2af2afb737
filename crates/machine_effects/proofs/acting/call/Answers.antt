use Rattle.std.proofs.Common.{◌≡◌, rules, true}
use Rattle.machine_state.specs.Keeping.{machine_of}
use Rattle.machine_effects.specs.Acting.{is_undefined}
use Rattle.machine_effects.proofs.ActingLemmas.{called}
use Rattle.machine_effects.proofs.acting.call.Goals as goal

pub returns-then-is_undefined-clause-calls : goal.returns-then-is_undefined-clause-calls
returns-then-is_undefined-clause-calls c below name =
    let e : is_undefined c.args.v.now ≡ true = search rules in
    called below c.args.v.now name c.args.args.now (machine_of c.args.state.now) (machine_of c.log.new.state) c.log.result e (c.log.ensures.logs below)
