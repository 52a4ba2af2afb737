use Rattle.std.proofs.Common.{◌≡◌}
use Rattle.unit_rows.specs.Seen.{all_seen}
use Rattle.instance_plans.specs.Numbers.{builtin_of, builtin_within}
use Rattle.instance_contents.proofs.types.builtin_of.Given as goal

abbrev pub invariant-documents : goal.invariant-documents
invariant-documents l = builtin_within l.left (all_seen l.units) l.of_type ≡ builtin_of (all_seen l.units) l.fn.of_type

abbrev pub decreases-documents : goal.decreases-documents
decreases-documents l = l.left
