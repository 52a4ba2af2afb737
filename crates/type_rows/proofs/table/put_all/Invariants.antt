use Rattle.std.proofs.Common.{◌≡◌, ◌++◌, drop, map}
use Rattle.type_rows.specs.Rows.{type_rows}
use Rattle.type_rows.proofs.table.put_all.Given as goal

abbrev pub invariant-types : goal.invariant-types
invariant-types l = l.all.items ++ map type_rows (drop l.of_type-index l.types) ≡ l.initial.all.items ++ map type_rows l.types
