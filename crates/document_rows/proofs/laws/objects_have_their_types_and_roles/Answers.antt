use Rattle.document_rows.proofs.RoleLemmas.{objects_by_rows}
use Rattle.document_rows.proofs.laws.objects_have_their_types_and_roles.Goals as goal

pub returns : goal.returns
returns c root = objects_by_rows root
