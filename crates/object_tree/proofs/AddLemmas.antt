-- What an added object leaves as it was.
use Rattle.std.proofs.Common.{◌≡◌, ◌∙◌, ◌⊎◌, inl, inr, ap, sym, refl, ℕ, zero, suc, ◌+◌, ◌-◌, ◌<◌, ◌≤◌, Bool, true, false, List, [], ◌∷◌, ◌++◌, length, slice_get, slice_index, nat_eq, if◌then◌else◌, arith}
use Rattle.std.specs.declared.option.Option.{Option}
use Rattle.std.specs.declared.option.Option.TheVariants.{None, Some}
use Rattle.qml_base.specs.declared.numbers.ObjNo.{ObjNo}
use Rattle.tree_model.specs.declared.cells.Object.{Object}
use Rattle.tree_model.specs.Doomed.{IsOrdered, IsBelow}
use Rattle.object_tree.specs.Trees.{found, is_there, IsAt, AllUpTo, MayOwn}
use Rattle.tree_model.specs.Removing.{doomed_of}
use Rattle.object_tree.proofs.FindLemmas.{number_is}

pub doomed_push : (xs : List Object) (x : Object) → x.condemned ≡ false → doomed_of (xs ++ x ∷ []) ≡ doomed_of xs
doomed_push [] x e = rw e refl
doomed_push (y ∷ ys) x e = by_mark y.condemned (doomed_push ys x e)
  where
    by_mark : (b : Bool) → doomed_of (ys ++ x ∷ []) ≡ doomed_of ys → (if b then y.number ∷ doomed_of (ys ++ x ∷ []) else doomed_of (ys ++ x ∷ [])) ≡ (if b then y.number ∷ doomed_of ys else doomed_of ys)
    by_mark true later = ap (λ l. y.number ∷ l) later
    by_mark false later = later

pub up_to_push : (m n : ℕ) (xs : List Object) (x : Object) → AllUpTo m xs → m ≤ n → x.number.0 ≤ n → AllUpTo n (xs ++ x ∷ [])
up_to_push m n [] x all h k = (k, tt)
up_to_push m n (y ∷ ys) x all h k = let first = all.0 in (omega arith, up_to_push m n ys x all.1 h k)

pub ordered_push : (n m : ℕ) (xs : List Object) (x : Object) → IsOrdered n xs → AllUpTo m xs → n < x.number.0 → m < x.number.0 → IsBelow x.owner x.number.0 → IsBelow x.origin x.number.0 → IsOrdered n (xs ++ x ∷ [])
ordered_push n m [] x ordered all low high owner origin = (low, owner, origin, tt)
ordered_push n m (y ∷ ys) x ordered all low high owner origin =
    let first = all.0 in
    (ordered.0, ordered.1, ordered.2, ordered_push y.number.0 m ys x ordered.3 all.1 (omega arith) high owner origin)

found_up_to : (m : ℕ) (xs : List Object) (p : ObjNo) → is_there (found xs p) ≡ true → AllUpTo m xs → p.0 ≤ m
found_up_to m [] p e all = let no : false ≡ true = e in cc
found_up_to m (x ∷ xs) p e all = by_first (nat_eq x.number.0 p.0) refl e (λ k. found_up_to m xs p k all.1)
  where
    by_first : (b : Bool) → nat_eq x.number.0 p.0 ≡ b → is_there (if b then Some x else found xs p) ≡ true → (is_there (found xs p) ≡ true → p.0 ≤ m) → p.0 ≤ m
    by_first true same there go_on = let first = all.0 in let is : x.number.0 ≡ p.0 = ap (λ (n : ObjNo). n.0) (number_is x.number p same) in omega arith
    by_first false same there go_on = go_on there

pub below : (m n : ℕ) (xs : List Object) (p : Option ObjNo) → MayOwn xs p → AllUpTo m xs → m < n → IsBelow p n
below m n xs None may all h = tt
below m n xs (Some p) may all h = let low = found_up_to m xs p may.0 all in omega arith

-- an object of the next number keeps the order
pub ordered_by_next : (given : ℕ) (xs : List Object) (x : Object) → IsOrdered 0 xs → AllUpTo given xs → x.number.0 ≡ given + 1 → MayOwn xs x.owner → MayOwn xs x.origin → IsOrdered 0 (xs ++ x ∷ [])
ordered_by_next given xs x ordered all next owner origin =
    ordered_push 0 given xs x ordered all (omega arith) (omega arith) (below given x.number.0 xs x.owner owner all (omega arith)) (below given x.number.0 xs x.origin origin all (omega arith))

pub index_left : (xs ys : List ℕ) (i : ℕ) → i < length xs → slice_index (xs ++ ys) i ≡ slice_index xs i
index_left [] ys i h = absurd (omega arith)
index_left (x ∷ xs) ys zero h = refl
index_left (x ∷ xs) ys (suc i) h = index_left xs ys i (omega arith)

index_end : (xs : List ℕ) (y : ℕ) → slice_index (xs ++ y ∷ []) (length xs) ≡ y
index_end [] y = refl
index_end (x ∷ xs) y = index_end xs y

pub get_push : (xs : List Object) (x y : Object) (i : ℕ) → slice_get (xs ++ x ∷ []) i ≡ Some y → (slice_get xs i ≡ Some y) ⊎ ((i ≡ length xs) × (y ≡ x))
get_push [] x y zero e = inr (refl, let same : y ≡ x = cc in same)
get_push [] x y (suc i) e = let no : None ≡ Some y = e in cc
get_push (z ∷ zs) x y zero e = inl e
get_push (z ∷ zs) x y (suc i) e = by_rest (get_push zs x y i e)
  where
    by_rest : (slice_get zs i ≡ Some y) ⊎ ((i ≡ length zs) × (y ≡ x)) → (slice_get zs i ≡ Some y) ⊎ ((suc i ≡ suc (length zs)) × (y ≡ x))
    by_rest (inl h) = inl h
    by_rest (inr h) = inr (ap suc h.0, h.1)

pub get_up_to : (m n : ℕ) (xs : List Object) (i : ℕ) (y : Object) → slice_get xs i ≡ Some y → AllUpTo m xs → IsOrdered n xs → (y.number.0 ≤ m) × (n < y.number.0)
get_up_to m n [] i y e all ordered = let no : None ≡ Some y = e in cc
get_up_to m n (x ∷ xs) zero y e all ordered = let same : x ≡ y = cc in rw (← same) (all.0, ordered.0)
get_up_to m n (x ∷ xs) (suc i) y e all ordered =
    let more = get_up_to m x.number.0 xs i y e all.1 ordered.3 in
    let low = ordered.0 in
    let above = more.1 in
    (more.0, omega arith)

pub at_push : (places : List ℕ) (xs : List Object) (x : Object) → IsAt places xs → AllUpTo (length places) xs → IsOrdered 0 xs → x.number.0 ≡ length places + 1 → IsAt (places ++ length xs ∷ []) (xs ++ x ∷ [])
at_push places xs x at all ordered number i y e = by_place (get_push xs x y i e)
  where
    by_place : (slice_get xs i ≡ Some y) ⊎ ((i ≡ length xs) × (y ≡ x)) → slice_index (places ++ length xs ∷ []) (y.number.0 - 1) ≡ i
    by_place (inl h) =
        let between = get_up_to (length places) 0 xs i y h all ordered in
        let high = between.0 in
        let low = between.1 in
        index_left places (length xs ∷ []) (y.number.0 - 1) (omega arith) ∙ at i y h
    by_place (inr h) =
        let last : y.number.0 - 1 ≡ length places = let same : y.number.0 ≡ x.number.0 = ap (λ (o : Object). o.number.0) h.1 in omega arith in
        ap (slice_index (places ++ length xs ∷ [])) last ∙ index_end places (length xs) ∙ sym h.0
