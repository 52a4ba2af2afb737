use Rattle.std.proofs.Common.{◌≡◌, reverse, length}
use Rattle.qml_base.specs.declared.numbers.ExprNo.{ExprNo}
use Rattle.qml_base.specs.declared.names.Home.{Home}
use Rattle.evaluation.specs.Ask.{Ask}
use Rattle.machine_model.specs.Acts.{each}
use Rattle.machine_model.specs.Emission.{put}
use Rattle.machine_state.specs.Keeping.{machine_of, Ready}
use Rattle.machine_writes.proofs.writing.put_all.Given as goal

abbrev pub invariant-contents : goal.invariant-contents
invariant-contents l = record {
  puts : each put (reverse l.left.items) (machine_of l.state) ≡ each put l.fn.contents.items (machine_of l.initial.state);
  ready : (asks : ExprNo → Home → Ask) → Ready asks l.initial.state → Ready asks l.state;
}

abbrev pub decreases-contents : goal.decreases-contents
decreases-contents l = length l.left.items
