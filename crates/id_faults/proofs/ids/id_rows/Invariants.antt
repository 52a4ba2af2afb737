use Rattle.std.proofs.Common.{◌≡◌, ◌++◌, drop}
use Rattle.name_faults.specs.Names.{by_rows}
use Rattle.id_faults.specs.Ids.{id_of}
use Rattle.id_faults.proofs.ids.id_rows.Given as goal

-- what was found, and what is left, is all
abbrev pub invariant-rows : goal.invariant-rows
invariant-rows l = l.found.items ++ by_rows (id_of l.roots) (drop l.number l.rows) (drop l.number l.inside) ≡ by_rows (id_of l.roots) l.rows l.inside
