use Rattle.std.proofs.Common.{◌≡◌, ◌++◌, drop}
use Rattle.given_members.proofs.paths.push_names.Given as goal

abbrev pub invariant-names : goal.invariant-names
invariant-names l = l.path.items ++ drop l.name-index l.names ≡ l.fn.path.items ++ l.names
