use Rattle.std.proofs.Common.{◌≡◌, subst, [], ◌∷◌}
use Rattle.machine_model.specs.Emission.{write}
use Rattle.machine_steps.specs.Giving.{Fails}
use Rattle.machine_state.specs.Keeping.{machine_of}
use Rattle.machine_effects.proofs.UnitsLemmas.{kept_by_write}
use Rattle.machine_effects.proofs.WritingLemmas.{put_off}
use Rattle.machine_effects.proofs.writing.put.Goals as goal

pub returns-in-Ok-clause-units : goal.returns-in-Ok-clause-units
returns-in-Ok-clause-units g c =
    kept_by_write (machine_of c.args.state.now) (machine_of c.write.new.state) c.in_ok-contents.contents.items c.in-Ok.changed c.in-Ok.ensures.writes

pub returns-in-Err-clause-puts : goal.returns-in-Err-clause-puts
returns-in-Err-clause-puts g c below =
    let m = machine_of c.args.state.now in
    let n = machine_of c.write.new.state in
    put_off below m n ((c.args.to, c.args.content) ∷ []) c.in-Err.fault
    (subst (λ xs. Fails c.in-Err.fault n (write below xs m)) c.in_ok-contents.ensures (c.in-Err.ensures.writes below))
