use Rattle.std.proofs.Common.{◌≡◌, ◌++◌, length, reverse}
use Rattle.code_deeds.specs.Scopes.{parameter_entries}
use Rattle.code_deeds.proofs.scopes.push_parameters.Given as goal

abbrev pub invariant-parts : goal.invariant-parts
invariant-parts l =
    parameter_entries l.tree l.left ++ reverse l.entries.items ≡ parameter_entries l.tree l.parts ++ reverse l.initial.entries.items

abbrev pub decreases-parts : goal.decreases-parts
decreases-parts l = length l.left
