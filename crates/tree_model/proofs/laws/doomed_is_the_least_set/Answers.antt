use Rattle.tree_model.specs.Doomed.{Begins, first, owned, made}
use Rattle.tree_model.proofs.LeastLemmas.{doomed_inside}
use Rattle.tree_model.proofs.laws.doomed_is_the_least_set.Goals as goal

pub returns : goal.returns
returns c = record {
  first = λ objects o x stands b. first stands b;
  owned = λ objects o x p d stands e. owned d stands e;
  made = λ objects o x p d stands e. made d stands e;
  inside = λ objects o held closed x d. doomed_inside objects (Begins o) held closed x d;
}
