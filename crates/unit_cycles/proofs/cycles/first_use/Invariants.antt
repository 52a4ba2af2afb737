use Rattle.std.proofs.Common.{◌≡◌, drop, map, length}
use Rattle.unit_cycles.specs.Uses.{uses_at, use_of, first_by}
use Rattle.unit_cycles.proofs.cycles.first_use.Given as goal

-- what is left has the first fault of all
abbrev pub invariant-uses : goal.invariant-uses
invariant-uses l =
    first_by (uses_at l.uses) (length l.uses) l.document (map use_of (drop l.u-index l.own)) ≡
    first_by (uses_at l.uses) (length l.uses) l.document (map use_of l.own)
