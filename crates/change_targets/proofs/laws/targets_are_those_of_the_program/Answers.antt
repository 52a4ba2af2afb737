use Rattle.change_targets.proofs.LayerLemmas.{target_as_meant}
use Rattle.change_targets.proofs.laws.targets_are_those_of_the_program.Goals as goal

pub returns : goal.returns
returns c p roots names targets stands told d o there = target_as_meant p roots names targets stands told d o there
