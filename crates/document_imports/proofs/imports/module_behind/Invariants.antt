use Rattle.std.proofs.Common.{◌≡◌}
use Rattle.qml_syntax.specs.Places.{behind}
use Rattle.type_uses.specs.Uses.{nodes_at}
use Rattle.document_imports.specs.Imports.{module_from, from_part}
use Rattle.document_imports.proofs.imports.module_behind.Given as goal

-- the name so far, and what is left behind it
abbrev pub invariant-dots : goal.invariant-dots
invariant-dots l =
    module_from l.name (nodes_at l.tree (from_part l.tree l.next)) ≡ module_from l.fn.first (nodes_at l.tree (behind l.tree l.part))
