use Rattle.std.proofs.Common.{◌≡◌, nat_eq, drop}
use Rattle.std.specs.List.{find}
use Rattle.unit_rows.specs.declared.unit.ComponentRow.{ComponentRow}
use Rattle.instancing.proofs.tables.with_root.Given as goal

abbrev pub invariant-components : goal.invariant-components
invariant-components l = find (λ (c : ComponentRow). nat_eq c.root l.root) (drop l.component-index l.components) ≡ find (λ (c : ComponentRow). nat_eq c.root l.root) l.components
