use Rattle.std.proofs.Common.{◌≡◌, ◌++◌, drop, map}
use Rattle.machine_state.specs.Keeping.{machine_of}
use Rattle.own_handlers.specs.Seen.{delivery_seen}
use Rattle.signal_dispatch.specs.Hearing.{heard_by_all}
use Rattle.signal_dispatch.specs.Seen.{hears}
use Rattle.signal_dispatch.proofs.connections.push_all.Given as goal

abbrev pub invariant-objects : goal.invariant-objects
invariant-objects l = map delivery_seen l.list.items ++ heard_by_all (machine_of l.state) (hears l.heard) (drop l.object-index l.objects) ≡ map delivery_seen l.initial.list.items ++ heard_by_all (machine_of l.state) (hears l.heard) l.objects
