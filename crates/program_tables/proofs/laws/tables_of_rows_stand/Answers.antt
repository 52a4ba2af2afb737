use Rattle.program_tables.proofs.DeclaredLemmas.{all_stand}
use Rattle.program_tables.proofs.laws.tables_of_rows_stand.Goals as goal

pub returns : goal.returns
returns c p units l says rooted = all_stand p units l says rooted
