-- One object taken out.
use Rattle.std.proofs.Common.{◌≡◌, ap, refl, ℕ, ◌<◌, nat_eq, not, Bool, true, false, List, [], ◌∷◌, filter, if◌then◌else◌, arith}
use Rattle.qml_base.specs.declared.numbers.ObjNo.{ObjNo}
use Rattle.tree_model.specs.declared.cells.Object.{Object}
use Rattle.tree_model.specs.Doomed.{IsOrdered}
use Rattle.object_tree.specs.Trees.{objects_but, AllUpTo}

pub objects_filter : (o : ObjNo) (xs : List Object) → filter (λ x. not (nat_eq x.number.0 o.0)) xs ≡ objects_but o xs
objects_filter o [] = refl
objects_filter o (x ∷ xs) = by_number (nat_eq x.number.0 o.0) refl (objects_filter o xs)
  where
    by_number : (b : Bool) → nat_eq x.number.0 o.0 ≡ b → filter (λ x. not (nat_eq x.number.0 o.0)) xs ≡ objects_but o xs → filter (λ x. not (nat_eq x.number.0 o.0)) (x ∷ xs) ≡ (if b then objects_but o xs else x ∷ objects_but o xs)
    by_number true is later = rw is later
    by_number false is later = rw is (ap (λ rest. x ∷ rest) later)

lower : (m n : ℕ) (xs : List Object) → m < n → IsOrdered n xs → IsOrdered m xs
lower m n [] h ordered = tt
lower m n (x ∷ xs) h ordered = let first = ordered.0 in (omega arith, ordered.1, ordered.2, ordered.3)

pub ordered_but : (o : ObjNo) (n : ℕ) (xs : List Object) → IsOrdered n xs → IsOrdered n (objects_but o xs)
ordered_but o n [] ordered = tt
ordered_but o n (x ∷ xs) ordered = by_number (nat_eq x.number.0 o.0) (ordered_but o x.number.0 xs ordered.3)
  where
    by_number : (b : Bool) → IsOrdered x.number.0 (objects_but o xs) → IsOrdered n (if b then objects_but o xs else x ∷ objects_but o xs)
    by_number true rest = lower n x.number.0 (objects_but o xs) ordered.0 rest
    by_number false rest = (ordered.0, ordered.1, ordered.2, rest)

pub up_to_but : (o : ObjNo) (n : ℕ) (xs : List Object) → AllUpTo n xs → AllUpTo n (objects_but o xs)
up_to_but o n [] all = tt
up_to_but o n (x ∷ xs) all = by_number (nat_eq x.number.0 o.0) (up_to_but o n xs all.1)
  where
    by_number : (b : Bool) → AllUpTo n (objects_but o xs) → AllUpTo n (if b then objects_but o xs else x ∷ objects_but o xs)
    by_number true rest = rest
    by_number false rest = (all.0, rest)
