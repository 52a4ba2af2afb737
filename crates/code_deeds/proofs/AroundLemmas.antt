-- Names around a place.
use Rattle.std.proofs.Common.{◌≡◌, ◌↔◌, IsTrue, ℕ, Bool, List, arith}
use Rattle.std.specs.Str.{bytes_eq}
use Rattle.std.proofs.lemmas.Slice.Eq.{bytes_eq-Decides}

pub same_bytes : (xs ys : List ℕ) (b : Bool) → (IsTrue b ↔ (xs ≡ ys)) → b ≡ bytes_eq xs ys
same_bytes xs ys b h = grind (arith, bytes_eq-Decides)
