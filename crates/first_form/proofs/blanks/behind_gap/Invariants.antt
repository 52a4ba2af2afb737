use Rattle.std.proofs.Common.{◌≡◌, ◌≤◌, length}
use Rattle.first_form.specs.Blanks.{after_gap}
use Rattle.first_form.proofs.blanks.behind_gap.Given as goal

abbrev pub invariant-blanks : goal.invariant-blanks
invariant-blanks l = record {
  few : length l.rest ≤ length l.bytes;
  exact : after_gap l.rest ≡ after_gap l.bytes;
}

abbrev pub decreases-blanks : goal.decreases-blanks
decreases-blanks l = length l.rest
