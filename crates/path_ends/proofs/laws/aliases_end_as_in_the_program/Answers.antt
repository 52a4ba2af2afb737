use Rattle.path_ends.proofs.ProgramLemmas.{alias_as_meant}
use Rattle.path_ends.proofs.laws.aliases_end_as_in_the_program.Goals as goal

pub returns : goal.returns
returns c p roots names ids aliases known tells knows d row x there kept = alias_as_meant p roots names ids aliases known tells knows d row x there kept
