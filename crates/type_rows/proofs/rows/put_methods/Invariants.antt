use Rattle.std.proofs.Common.{◌≡◌, ◌++◌, drop, map}
use Rattle.type_rows.specs.Rows.{row_of_method}
use Rattle.type_rows.proofs.rows.put_methods.Given as goal

abbrev pub invariant-methods : goal.invariant-methods
invariant-methods l = l.rows ++ map row_of_method (drop l.method-index l.methods) ≡ l.initial.rows ++ map row_of_method l.methods
