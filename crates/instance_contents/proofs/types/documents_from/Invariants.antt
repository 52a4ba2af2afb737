use Rattle.std.proofs.Common.{◌≡◌, ◌++◌, reverse}
use Rattle.unit_rows.specs.Seen.{all_seen}
use Rattle.instance_plans.specs.Numbers.{documents_of, documents_within}
use Rattle.instance_contents.proofs.types.documents_from.Given as goal

abbrev pub invariant-documents : goal.invariant-documents
invariant-documents l = documents_within l.left (all_seen l.units) l.of_type ++ reverse l.documents.items ≡ documents_of (all_seen l.units) l.fn.of_type

abbrev pub decreases-documents : goal.decreases-documents
decreases-documents l = l.left
