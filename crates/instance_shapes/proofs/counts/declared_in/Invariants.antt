use Rattle.std.proofs.Common.{◌≡◌, ◌+◌, drop}
use Rattle.unit_rows.specs.Seen.{all_seen}
use Rattle.instance_shapes.specs.Told.{cells_of_documents}
use Rattle.instance_shapes.proofs.counts.declared_in.Given as goal

abbrev pub invariant-documents : goal.invariant-documents
invariant-documents l = l.cells + cells_of_documents (all_seen l.units) (drop l.u-index l.documents) ≡ cells_of_documents (all_seen l.units) l.documents
