use Rattle.std.proofs.Common.{◌≡◌, ◌++◌, drop}
use Rattle.name_faults.specs.Names.{by_rows, declared_of}
use Rattle.name_faults.proofs.declared.declared_rows.Given as goal

-- what was found, and what is left, is all
abbrev pub invariant-rows : goal.invariant-rows
invariant-rows l = l.found.items ++ by_rows (declared_of l.names.units.items l.document) (drop l.number l.rows) (drop l.number l.inside) ≡ by_rows (declared_of l.names.units.items l.document) l.rows l.inside
