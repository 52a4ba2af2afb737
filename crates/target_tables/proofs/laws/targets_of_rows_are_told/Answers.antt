use Rattle.target_tables.proofs.ToldLemmas.{all_told}
use Rattle.target_tables.proofs.laws.targets_of_rows_are_told.Goals as goal

pub returns : goal.returns
returns c p roots names targets stands all = all_told p roots names targets stands all
