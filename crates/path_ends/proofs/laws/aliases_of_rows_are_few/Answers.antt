use Rattle.path_ends.proofs.CountLemmas.{few_aliases}
use Rattle.path_ends.proofs.laws.aliases_of_rows_are_few.Goals as goal

pub returns : goal.returns
returns c p names aliases long many says range = few_aliases p names aliases long many says range
