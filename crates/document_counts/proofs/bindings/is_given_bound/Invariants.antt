use Rattle.std.proofs.Common.{◌≡◌}
use Rattle.qml_syntax.specs.Places.{behind}
use Rattle.document_counts.specs.Bindings.{given_after, from_part}
use Rattle.document_counts.proofs.PlaceLemmas.{left}
use Rattle.document_counts.proofs.bindings.is_given_bound.Given as goal

-- what is left behind the last name is given as all
abbrev pub invariant-names : goal.invariant-names
invariant-names l = given_after l.tree l.last (from_part l.tree l.next) ≡ given_after l.tree l.initial.last (behind l.tree l.initial.last)

abbrev pub decreases-names : goal.decreases-names
decreases-names l = left l.tree l.next
