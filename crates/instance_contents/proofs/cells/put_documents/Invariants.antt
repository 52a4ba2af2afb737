use Rattle.std.proofs.Common.{◌≡◌, ◌++◌, drop, length}
use Rattle.instance_contents.specs.Making.{declared_from, rows_of_documents}
use Rattle.instance_contents.proofs.cells.put_documents.Given as goal

abbrev pub invariant-documents : goal.invariant-documents
invariant-documents l = l.cells.items ++ declared_from l.tables l.number (length l.cells.items) (rows_of_documents l.tables (drop l.document-index l.documents)) ≡ l.initial.cells.items ++ declared_from l.tables l.number (length l.initial.cells.items) (rows_of_documents l.tables l.documents)
