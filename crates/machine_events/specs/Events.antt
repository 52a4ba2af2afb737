-- The events of the definitions, as the code's say them.
use Rattle.machine_model.specs.Lines as lines
use Rattle.machine_events.specs.declared.event.Event.{Event}
use Rattle.machine_events.specs.declared.event.Event.TheVariants as event

abbrev pub event_seen : Event → lines.Event
event_seen (event.Opening u) = lines.opening u
event_seen (event.Statements e) = lines.statements e
event_seen (event.Advance n) = lines.advance n
event_seen (event.Reading r) = lines.reading r
event_seen event.PrintAll = lines.print_all
event_seen (event.PrintPath path e) = lines.print_path path e
