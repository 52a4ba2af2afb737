use Rattle.document_rows.proofs.OwnedLemmas.{members_by_rows}
use Rattle.document_rows.proofs.laws.objects_have_their_members.Goals as goal

pub returns : goal.returns
returns c root o = members_by_rows root o
