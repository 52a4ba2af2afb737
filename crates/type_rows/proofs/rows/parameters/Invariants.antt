use Rattle.std.proofs.Common.{◌≡◌, ◌++◌, drop, map}
use Rattle.type_rows.proofs.rows.parameters.Given as goal

abbrev pub invariant-names : goal.invariant-names
invariant-names l = l.texts ++ map (λ name. name.now) (drop l.name-index l.names) ≡ map (λ name. name.now) l.names
