use Rattle.machine_model.specs.Lines.{begun_event}
use Rattle.machine_state.specs.Keeping.{machine_of}
use Rattle.machine_events.specs.Events.{event_seen}
use Rattle.machine_events.proofs.EventLemmas.{from_there}
use Rattle.machine_events.proofs.event.run_event.Goals as goal

pub returns-clause-does : goal.returns-clause-does
returns-clause-does g c =
    from_there c.args.root (event_seen c.args.what) (begun_event c.args.most c.args.shown (machine_of c.args.state.now)) (machine_of c.begin_event.new.state)
    (machine_of c.do_event.new.state) c.do_event.result c.in_ok-begin_event.ensures.begun c.do_event.ensures.does
