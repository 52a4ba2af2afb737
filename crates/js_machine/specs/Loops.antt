-- Of each open frame, whether a loop of the same body stands around what it awaits.
use Rattle.std.specs.Prelude.{Bool, false, List, [], ◌∷◌}
use Rattle.js_machine.specs.Moves.{Open, loops}

abbrev pub each_loops : Open → List Bool
each_loops [] = []
each_loops (x ∷ fs) = loops (x ∷ fs) ∷ each_loops fs

abbrev pub innermost : List Bool → Bool
innermost [] = false
innermost (b ∷ bs) = b
