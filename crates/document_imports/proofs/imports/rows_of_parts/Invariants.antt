use Rattle.std.proofs.Common.{◌≡◌, ◌++◌}
use Rattle.qml_syntax.specs.Places.{places_of}
use Rattle.document_imports.specs.Imports.{row_values, rows_at, from_part}
use Rattle.document_imports.proofs.imports.rows_of_parts.Given as goal

-- the rows so far, and those of what is left, are all
abbrev pub invariant-parts : goal.invariant-parts
invariant-parts l =
    row_values l.rows.items ++ rows_at l.here l.tree (from_part l.tree l.next) ≡ rows_at l.here l.tree (places_of l.tree l.at)
