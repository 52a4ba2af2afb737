use Rattle.std.proofs.Common.{◌≡◌, drop, []}
use Rattle.alias_tables.specs.Roots.{roots_after}
use Rattle.alias_tables.proofs.components.component_roots.Given as goal

abbrev pub invariant-objects : goal.invariant-objects
invariant-objects l = roots_after l.begins l.roots.items l.object (drop l.object l.owners) ≡ roots_after l.begins [] 0 l.owners
