use Rattle.document_rows.proofs.PathLemmas.{whole_paths}
use Rattle.document_rows.proofs.laws.members_have_whole_paths.Goals as goal

pub returns : goal.returns
returns c root = whole_paths root
