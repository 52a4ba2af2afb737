use Rattle.first_form.proofs.DocumentLemmas.{document_found, document_only}
use Rattle.first_form.proofs.laws.documents_are_read_as_spelled.Goals as goal

pub returns-clause-found : goal.returns-clause-found
returns-clause-found c = document_found

pub returns-clause-only : goal.returns-clause-only
returns-clause-only c = document_only
