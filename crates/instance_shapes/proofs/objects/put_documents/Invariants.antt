use Rattle.std.proofs.Common.{◌≡◌, drop}
use Rattle.instance_names.specs.Names.{each_put}
use Rattle.instance_shapes.specs.Told.{pairs_of_documents}
use Rattle.instance_shapes.proofs.objects.put_documents.Given as goal

abbrev pub invariant-documents : goal.invariant-documents
invariant-documents l = each_put l.names (pairs_of_documents l.tables l.viewer l.aliases (drop l.u-index l.documents)) ≡ each_put l.initial.names (pairs_of_documents l.tables l.viewer l.aliases l.documents)
