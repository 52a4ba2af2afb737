use Rattle.std.proofs.Common.{◌≡◌, length, reverse}
use Rattle.code_deeds.specs.Around as s
use Rattle.code_deeds.proofs.around.inside.Given as goal

abbrev pub invariant-entries : goal.invariant-entries
invariant-entries l = s.inside (reverse l.left) ≡ s.inside (reverse l.entries)

abbrev pub decreases-entries : goal.decreases-entries
decreases-entries l = length l.left
