use Rattle.std.proofs.Common.{◌≡◌, ◌∷◌, [], length}
use Rattle.first_form.specs.Document.{names_of}
use Rattle.first_form.specs.Pieces.{pieces_of}
use Rattle.first_form.specs.Values.{factors_of}
use Rattle.first_form.proofs.ReadLemmas.{prefix}
use Rattle.first_form.proofs.values.factors.Given as goal

abbrev pub invariant-pieces : goal.invariant-pieces
invariant-pieces l = prefix l.factors (factors_of (names_of l.program) (pieces_of (42 ∷ []) l.rest)) ≡ factors_of (names_of l.program) (pieces_of (42 ∷ []) l.bytes)

abbrev pub decreases-pieces : goal.decreases-pieces
decreases-pieces l = length l.rest
