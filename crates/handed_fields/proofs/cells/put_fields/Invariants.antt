use Rattle.std.proofs.Common.{◌≡◌, ◌++◌, drop}
use Rattle.std.specs.List.{filter_map}
use Rattle.handed_fields.specs.Handed.{handed_under}
use Rattle.handed_fields.proofs.cells.put_fields.Given as goal

abbrev pub invariant-fields : goal.invariant-fields
invariant-fields l = l.handed.items ++ filter_map (handed_under l.tables l.names) (drop l.field-index l.fields) ≡ l.initial.handed.items ++ filter_map (handed_under l.tables l.names) l.fields
