use Rattle.std.proofs.Common.{◌≡◌, ◌≤◌, ◌+◌, ◌∷◌, [], length}
use Rattle.first_form.specs.Document.{names_of}
use Rattle.first_form.specs.Pieces.{pieces_of}
use Rattle.first_form.specs.Script.{script_from}
use Rattle.first_form.specs.Steps.{prepend}
use Rattle.first_form.proofs.script.script_lines.Given as goal

abbrev pub invariant-lines : goal.invariant-lines
invariant-lines l = record {
  few : l.n + length l.rest ≤ length l.bytes + 1;
  exact : prepend l.lines.items (script_from (names_of l.program) l.n (pieces_of (10 ∷ []) l.rest)) ≡ script_from (names_of l.program) 1 (pieces_of (10 ∷ []) l.bytes);
}

abbrev pub decreases-lines : goal.decreases-lines
decreases-lines l = length l.rest
