use Rattle.program_tables.proofs.MeaningLemmas.{found_as_meant}
use Rattle.program_tables.proofs.laws.names_mean_as_in_the_program.Goals as goal

pub returns : goal.returns
returns c p units h d o i name = found_as_meant p units h d o i name
