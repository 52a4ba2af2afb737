use Rattle.std.proofs.Common.{◌≡◌, ◌∷◌, [], false, length}
use Rattle.first_form.specs.Document.{names_of}
use Rattle.first_form.specs.Pieces.{pieces_of}
use Rattle.first_form.specs.Values.{products_of}
use Rattle.first_form.proofs.ReadLemmas.{prefix}
use Rattle.first_form.proofs.values.products.Given as goal

abbrev pub invariant-pieces : goal.invariant-pieces
invariant-pieces l = prefix l.products (products_of (names_of l.program) l.minus (pieces_of (43 ∷ 45 ∷ []) l.rest)) ≡ products_of (names_of l.program) false (pieces_of (43 ∷ 45 ∷ []) l.bytes)

abbrev pub decreases-pieces : goal.decreases-pieces
decreases-pieces l = length l.rest
