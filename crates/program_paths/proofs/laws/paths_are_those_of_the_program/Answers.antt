use Rattle.program_paths.proofs.PathsLemmas.{all_tell}
use Rattle.program_paths.proofs.laws.paths_are_those_of_the_program.Goals as goal

pub returns : goal.returns
returns c p tables made h are = all_tell p tables made h are
