use Rattle.std.proofs.Common.{◌≡◌, take, drop}
use Rattle.first_form.specs.Pieces.{cut_of}
use Rattle.first_form.proofs.CutLemmas.{behind}
use Rattle.first_form.proofs.pieces.cut_at.Given as goal

abbrev pub invariant-loop-i : goal.invariant-loop-i
invariant-loop-i l = behind (take l.i l.bytes) (cut_of l.marks (drop l.i l.bytes)) ≡ cut_of l.marks l.bytes
