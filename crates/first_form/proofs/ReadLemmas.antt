-- What is read so far, and what follows it.
use Rattle.std.proofs.Common.{List, ◌++◌}
use Rattle.std.specs.declared.option.Option.{Option}
use Rattle.std.specs.Option.{option_map}

abbrev pub prefix : {A : Type 0} → List A → Option (List A) → Option (List A)
prefix front rest = option_map (λ xs. front ++ xs) rest
