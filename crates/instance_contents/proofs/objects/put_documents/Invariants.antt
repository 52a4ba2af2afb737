use Rattle.std.proofs.Common.{◌≡◌, ◌++◌, drop, map}
use Rattle.instance_plans.specs.Numbers.{document_ref}
use Rattle.instance_contents.proofs.objects.put_documents.Given as goal

abbrev pub invariant-documents : goal.invariant-documents
invariant-documents l = l.types.items ++ map document_ref (drop l.document-index l.documents) ≡ l.initial.types.items ++ map document_ref l.documents
