use Rattle.std.proofs.Common.{◌≡◌, take, map}
use Rattle.handler_names.specs.Handlers.{no_handlers}
use Rattle.handler_names.proofs.declared.no_handlers.Given as goal

abbrev pub invariant-objects : goal.invariant-objects
invariant-objects l = l.tables.items ≡ map no_handlers (take l._object-index l.objects)
