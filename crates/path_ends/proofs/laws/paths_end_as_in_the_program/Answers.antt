use Rattle.path_ends.proofs.ProgramLemmas.{end_as_meant}
use Rattle.path_ends.proofs.laws.paths_end_as_in_the_program.Goals as goal

pub returns : goal.returns
returns c p roots names ids aliases known tells knows s path there = end_as_meant p roots names ids aliases known tells knows s path there
