use Rattle.run_output.proofs.EndLemmas.{ends_so}
use Rattle.run_output.proofs.laws.endings_are_told.Goals as goal

pub returns : goal.returns
returns c asked files readings output h = ends_so asked files readings output h
