use Rattle.std.proofs.Common.{◌≡◌, drop, map, []}
use Rattle.handler_names.specs.Handlers.{no_handlers, handlers_added}
use Rattle.handler_names.proofs.declared.unit_handlers.Given as goal

abbrev pub invariant-rows : goal.invariant-rows
invariant-rows l =
    handlers_added l.grouping.items (drop l.row-index l.rows) l.tables.items ≡ handlers_added [] l.rows (map no_handlers l.objects)
