use Rattle.std.proofs.Common.{◌≡◌, length, reverse}
use Rattle.js_locals.specs.Laid.{laid}
use Rattle.code_deeds.specs.Around as s
use Rattle.code_deeds.proofs.around.is_local.Given as goal

abbrev pub invariant-entries : goal.invariant-entries
invariant-entries l = s.is_local (laid l.tree) l.start.given.items l.name (reverse l.left) ≡ s.is_local (laid l.tree) l.start.given.items l.name (reverse l.entries)

abbrev pub decreases-entries : goal.decreases-entries
decreases-entries l = length l.left
