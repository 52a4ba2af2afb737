use Rattle.std.proofs.Common.{◌≡◌, ℕ, List, drop, map, reverse}
use Rattle.unit_cycles.specs.Uses.{use_of, added}
use Rattle.unit_cycles.specs.Waiting.{Marks, documents_of}
use Rattle.unit_cycles.proofs.reaching.wait_for_all.Given as goal

-- marked are those that were reached and those that wait, and with what is left the same wait as with all
abbrev pub invariant-uses : goal.invariant-uses
invariant-uses l =
    (seen : List ℕ) → Marks l.fn.marks.keys seen (reverse l.fn.todo.items) →
    Marks l.marks.keys seen (reverse l.todo.items) ×
    (added seen (reverse l.todo.items) (documents_of (map use_of (drop l.u-index l.uses))) ≡ added seen (reverse l.fn.todo.items) (documents_of (map use_of l.uses)))
