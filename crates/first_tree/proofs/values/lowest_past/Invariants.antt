use Rattle.std.proofs.Common.{◌≡◌, ◌<◌, ℕ}
use Rattle.qml_model.specs.declared.content.Outcome.TheVariants.{Past}
use Rattle.first_tree.specs.Sweeps.{read_in}
use Rattle.first_tree.proofs.values.lowest_past.Given as goal

abbrev pub invariant-loop-c : goal.invariant-loop-c
invariant-loop-c l = (d : ℕ) → d < l.c → read_in l.table d ≡ Past → ⊥
