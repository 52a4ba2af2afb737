-- Whether the innermost frame stands in a loop.
use Rattle.std.proofs.Common.{◌≡◌, List, [], ◌∷◌, refl, ap, ◌∙◌, Bool}
use Rattle.js_machine.specs.Moves.{Open, loops}
use Rattle.js_machine.specs.Loops.{each_loops, innermost}

innermost_loops : (fs : Open) → innermost (each_loops fs) ≡ loops fs
innermost_loops [] = refl
innermost_loops (x ∷ fs) = refl

pub looping_now : (flags : List Bool) (fs : Open) → flags ≡ each_loops fs → innermost flags ≡ loops fs
looping_now flags fs h = ap innermost h ∙ innermost_loops fs
