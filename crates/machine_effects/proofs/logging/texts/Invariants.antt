use Rattle.std.proofs.Common.{◌≡◌, ◌++◌, drop}
use Rattle.machine_model.specs.Bodies.{texts_of, are_heavy}
use Rattle.machine_effects.proofs.logging.texts.Given as goal

abbrev pub invariant-values : goal.invariant-values
invariant-values l = record {
  told : l.texts.items ++ texts_of (drop l.value-index l.values) ≡ texts_of l.values;
  heavy : are_heavy (texts_of (drop l.value-index l.values)) ≡ are_heavy (texts_of l.values);
}
