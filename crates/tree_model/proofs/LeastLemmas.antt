-- The doomed objects are in each set that holds the beginning and what follows from a member.
use Rattle.std.proofs.Common.{◌≡◌, Bool, true, List}
use Rattle.tree_model.specs.declared.cells.Object.{Object}
use Rattle.tree_model.specs.Doomed.{Doomed, first, owned, made, IsClosedUnder}

pub doomed_inside : (objects : List Object) (begins : Object → Type 0) (held : Object → Bool) → IsClosedUnder objects begins held → (x : Object) → Doomed objects begins x → held x ≡ true
doomed_inside objects begins held closed x (first stands b) = closed.first x stands b
doomed_inside objects begins held closed x (owned {p = p} d stands e) = closed.owned x p (doomed_inside objects begins held closed p d) stands e
doomed_inside objects begins held closed x (made {p = p} d stands e) = closed.made x p (doomed_inside objects begins held closed p d) stands e
