use Rattle.std.proofs.Common.{◌≡◌, reverse, vec_len}
use Rattle.code_deeds.specs.Around.{outer}
use Rattle.code_deeds.proofs.scopes.leave.Given as goal

abbrev pub invariant-entries : goal.invariant-entries
invariant-entries l = outer (reverse l.entries.items) ≡ outer (reverse l.initial.entries.items)

abbrev pub decreases-entries : goal.decreases-entries
decreases-entries l = vec_len l.entries
