use Rattle.program_paths.proofs.PathsLemmas.{all_roots}
use Rattle.program_paths.proofs.laws.roots_are_those_of_components.Goals as goal

pub returns : goal.returns
returns c p tables made d own h are e = all_roots p tables made d own h are e
