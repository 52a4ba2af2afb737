use Rattle.std.proofs.Common.{◌≡◌, rules, true, false}
use Rattle.machine_model.specs.Dispatch.{is_condemned}
use Rattle.machine_model.specs.Bodies.{may_be_written, bound_to}
use Rattle.machine_state.specs.Keeping.{machine_of}
use Rattle.machine_effects.proofs.WritingLemmas.{bound_on}
use Rattle.machine_effects.proofs.writing.rebind.Goals as goal

pub returns-clause-puts : goal.returns-clause-puts
returns-clause-puts g c below =
    let m = machine_of c.args.state.now in
    let here : is_condemned m c.args.c.object ≡ false = search rules in
    let writable : may_be_written m c.args.c ≡ true = search rules in
    bound_on below m (machine_of c.put.new.state) c.args.c c.cell_to_write-to.result (bound_to c.args.text c.args.home) c.put.result here writable
    c.cell_to_write-to.ensures (c.put.ensures.puts below)
