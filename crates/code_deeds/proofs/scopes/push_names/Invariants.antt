use Rattle.std.proofs.Common.{◌≡◌, ◌++◌, length, reverse}
use Rattle.code_deeds.specs.Scopes.{name_entries}
use Rattle.code_deeds.proofs.scopes.push_names.Given as goal

abbrev pub invariant-names : goal.invariant-names
invariant-names l = name_entries l.left ++ reverse l.entries.items ≡ name_entries l.names ++ reverse l.initial.entries.items

abbrev pub decreases-names : goal.decreases-names
decreases-names l = length l.left
