use Rattle.path_meanings.proofs.MeaningLemmas.{path_as_meant}
use Rattle.path_meanings.proofs.laws.paths_mean_as_in_the_program.Goals as goal

pub returns : goal.returns
returns c p roots names ids aliases known handlers tells knows told s before first rest there =
    path_as_meant p roots names ids aliases known tells knows handlers told s before first rest there
