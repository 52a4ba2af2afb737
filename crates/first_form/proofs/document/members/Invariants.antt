use Rattle.std.proofs.Common.{◌≡◌, ◌≤◌, ◌+◌, ◌∷◌, [], length}
use Rattle.first_form.specs.Document.{names_of, members_of}
use Rattle.first_form.specs.Pieces.{pieces_of}
use Rattle.first_form.proofs.ReadLemmas.{prefix}
use Rattle.first_form.proofs.document.members.Given as goal

abbrev pub invariant-lines : goal.invariant-lines
invariant-lines l = record {
  few : length l.program + length l.rest ≤ length l.bytes;
  exact : prefix l.program (members_of (names_of l.program) (pieces_of (59 ∷ 10 ∷ []) l.rest)) ≡ members_of [] (pieces_of (59 ∷ 10 ∷ []) l.bytes);
}

abbrev pub decreases-lines : goal.decreases-lines
decreases-lines l = length l.rest
