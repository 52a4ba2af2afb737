use Rattle.std.proofs.Common.{◌≡◌, ◌+◌, drop}
use Rattle.path_ends.specs.Said.{count_in}
use Rattle.path_ends.proofs.aliases.count_in.Given as goal

abbrev pub invariant-rows : goal.invariant-rows
invariant-rows l = l.count + count_in (drop l.alias-index l.rows) ≡ count_in l.rows
