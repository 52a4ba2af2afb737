use Rattle.std.proofs.Common.{◌≡◌, ◌++◌, drop}
use Rattle.std.specs.List.{flat_map}
use Rattle.type_rows.specs.Rows.{rows_of_base}
use Rattle.type_rows.proofs.rows.put_bases.Given as goal

abbrev pub invariant-bases : goal.invariant-bases
invariant-bases l = l.rows ++ flat_map rows_of_base (drop l.base-index l.bases) ≡ l.initial.rows ++ flat_map rows_of_base l.bases
