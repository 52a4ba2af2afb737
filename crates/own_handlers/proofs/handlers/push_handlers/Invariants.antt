use Rattle.std.proofs.Common.{◌≡◌, ◌++◌, drop, map}
use Rattle.own_handlers.specs.Seen.{delivery_seen}
use Rattle.own_handlers.specs.Emitting.{deliveries_of}
use Rattle.own_handlers.proofs.handlers.push_handlers.Given as goal

abbrev pub invariant-handlers : goal.invariant-handlers
invariant-handlers l = map delivery_seen l.list.items ++ deliveries_of l.emitted l.u (drop l.handler-index l.handlers) ≡ map delivery_seen l.initial.list.items ++ deliveries_of l.emitted l.u l.handlers
