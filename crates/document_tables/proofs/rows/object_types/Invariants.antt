use Rattle.std.proofs.Common.{◌≡◌, take, map}
use Rattle.document_imports.specs.Imports.{row_values}
use Rattle.document_rows.specs.declared.rows.ObjectRow.{ObjectRow}
use Rattle.document_tables.specs.Finding.{object_type}
use Rattle.document_tables.proofs.rows.object_types.Given as goal

abbrev pub invariant-objects : goal.invariant-objects
invariant-objects l =
    l.types.items ≡ map (λ (o : ObjectRow). object_type l.program l.here (row_values l.imports) l.tree o.node) (take l.object-index l.objects)
