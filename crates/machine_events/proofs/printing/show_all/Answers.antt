use Rattle.machine_state.specs.Keeping.{machine_of}
use Rattle.machine_events.proofs.ShownLemmas.{all_shown}
use Rattle.machine_events.proofs.printing.show_all.Goals as goal

pub returns-clause-does : goal.returns-clause-does
returns-clause-does c = all_shown (machine_of c.args.state.now) c.push_all.new.trace.items c.in_ok-push_all.ensures
