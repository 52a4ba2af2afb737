use Rattle.path_ends.proofs.ToldLemmas.{aliases_told_all}
use Rattle.path_ends.proofs.laws.aliases_of_rows_are_told.Goals as goal

pub returns : goal.returns
returns c p names aliases says = aliases_told_all p names aliases says
