use Rattle.std.proofs.Common.{◌≡◌, ◌+◌, ◌≤◌, drop}
use Rattle.document_counts.specs.Bindings.{bindings_in_rows}
use Rattle.document_counts.proofs.counts.count_bindings.Given as goal

-- those so far, and those of what is left, are all
abbrev pub invariant-rows : goal.invariant-rows
invariant-rows l =
    (l.count + bindings_in_rows l.tree (drop l.row-index l.rows) ≡ bindings_in_rows l.tree l.rows) × (l.count ≤ l.row-index)
