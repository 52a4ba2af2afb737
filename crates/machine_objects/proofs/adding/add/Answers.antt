use Rattle.std.proofs.Common.{rules, ◌≡◌, ◌++◌, refl}
use Rattle.machine_state.specs.declared.state.State.{State}
use Rattle.machine_objects.proofs.AddLemmas.{added_if}
use Rattle.machine_objects.proofs.adding.add.Goals as goal

pub returns-clause-adds : goal.returns-clause-adds
returns-clause-adds c i =
    let old = c.args.state.now in
    let new : State = record { units = old.units; tree = c.add_instance.new.tree; written = c.extend_from_slice.new.self; time = old.time; turns = old.turns; trace = c.add_instance.new.trace; answered = old.answered } in
    let written : c.extend_from_slice.new.self.items ≡ old.written.items ++ c.args.instance.planned.items = search rules in
    added_if old new c.args.instance i c.args.starting.now.items c.add_instance.new.starting.items c.add_instance.result
    c.add_instance.ensures.adds c.add_instance.ensures.tells written refl refl refl refl
