use Rattle.std.proofs.Common.{◌≡◌, length}
use Rattle.js_subset.proofs.evaluating.cleared.Given as goal

abbrev pub invariant-frames : goal.invariant-frames
invariant-frames l = length l.frames ≡ length l.frames

abbrev pub decreases-frames : goal.decreases-frames
decreases-frames l = length l.frames
