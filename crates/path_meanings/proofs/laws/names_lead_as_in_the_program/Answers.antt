use Rattle.path_meanings.proofs.MeaningLemmas.{leads}
use Rattle.path_meanings.proofs.laws.names_lead_as_in_the_program.Goals as goal

pub returns : goal.returns
returns c p roots names ids aliases known tells knows s path there = leads p roots names ids aliases known tells knows s path there
