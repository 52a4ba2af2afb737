use Rattle.std.proofs.Common.{◌≡◌, length}
use Rattle.first_form.specs.Blanks.{after_spaces}
use Rattle.first_form.proofs.blanks.behind_spaces.Given as goal

abbrev pub invariant-spaces : goal.invariant-spaces
invariant-spaces l = after_spaces l.rest ≡ after_spaces l.bytes

abbrev pub decreases-spaces : goal.decreases-spaces
decreases-spaces l = length l.rest
