use Rattle.path_ends.proofs.ToldLemmas.{ids_told_all}
use Rattle.path_ends.proofs.laws.ids_of_rows_are_told.Goals as goal

pub returns : goal.returns
returns c p roots names ids says = ids_told_all p roots names ids says
