use Rattle.std.proofs.Common.{◌≡◌, drop, length}
use Rattle.unit_cycles.specs.Uses.{uses_at, cycle_in, first_in}
use Rattle.unit_cycles.proofs.cycles.first_of_order.Given as goal

-- what is left has the first fault of all
abbrev pub invariant-documents : goal.invariant-documents
invariant-documents l =
    first_in (cycle_in (uses_at l.uses) (length l.uses)) (drop l.document-index l.order) ≡
    first_in (cycle_in (uses_at l.uses) (length l.uses)) l.order
