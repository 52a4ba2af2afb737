-- Objects of an instance may own those behind them.
use Rattle.std.proofs.Common.{◌≡◌, ◌≢◌, ◌∙◌, ap, refl, ℕ, suc, ◌+◌, ◌≤◌, ◌<◌, nat_eq, Bool, true, false, cond, List, [], ◌∷◌, ◌++◌, length, Option, Some, None, arith}
use Rattle.qml_base.specs.declared.numbers.ObjNo.{ObjNo}
use Rattle.tree_model.specs.declared.cells.Object.{Object}
use Rattle.tree_model.specs.Doomed.{is_marked}
use Rattle.object_tree.specs.Trees.{found, is_there, MayOwn, AllUpTo}
use Rattle.instance_plans.specs.Numbers.{object_no}
use Rattle.instance_contents.specs.Making.{Looks}
use Rattle.machine_making.specs.Adding.{objects_added}

differ : (m n : ℕ) → m ≢ n → nat_eq m n ≡ false
differ m n ne = grind (arith)

same : (m n : ℕ) → m ≡ n → nat_eq m n ≡ true
same m n e = grind (arith)

-- no object of these has the number
past : (given p : ℕ) (xs ys : List Object) → AllUpTo given xs → given < p → found (xs ++ ys) (object_no p) ≡ found ys (object_no p)
past given p [] ys h less = refl
past given p (x ∷ xs) ys h less =
    let one = h.0 in
    rw (differ x.number.0 p (λ e. absurd (omega arith))) (past given p xs ys h.1 less)

past_marked : (given p : ℕ) (xs ys : List Object) → AllUpTo given xs → given < p → is_marked (xs ++ ys) (object_no p) ≡ is_marked ys (object_no p)
past_marked given p [] ys h less = refl
past_marked given p (x ∷ xs) ys h less =
    let one = h.0 in
    rw (differ x.number.0 p (λ e. absurd (omega arith))) (past_marked given p xs ys h.1 less)

-- one of those that are added
there : (origin : Option ObjNo) (n p : ℕ) (made : List Looks) → n ≤ p → p < n + length made → MayOwn (objects_added origin n made) (Some (object_no p))
there origin n p [] least less = absurd (omega arith)
there origin n p (x ∷ rest) least less = by_number (nat_eq n p) refl (there origin (suc n) p rest)
  where
    by_number : (b : Bool) → nat_eq n p ≡ b → (suc n ≤ p → p < suc n + length rest → MayOwn (objects_added origin (suc n) rest) (Some (object_no p))) → MayOwn (objects_added origin n (x ∷ rest)) (Some (object_no p))
    by_number true e later = rw e (refl, refl)
    by_number false e later = rw e (later (let ne : n ≢ p = (λ s. absurd (let t = same n p s in cc)) in omega (arith, ne)) (omega arith))

pub may_own : (origin : Option ObjNo) (given p : ℕ) (objects : List Object) (made : List Looks) → AllUpTo given objects → given < p → p < suc given + length made
    → MayOwn (objects ++ objects_added origin (suc given) made) (Some (object_no p))
may_own origin given p objects made h more less =
    let own = there origin (suc given) p made (omega arith) less in
    (ap is_there (past given p objects (objects_added origin (suc given) made) h more) ∙ own.0, past_marked given p objects (objects_added origin (suc given) made) h more ∙ own.1)

-- who may own still may where others come behind
found_front : (xs ys : List Object) (o : ObjNo) → is_there (found xs o) ≡ true → is_there (found (xs ++ ys) o) ≡ true
found_front [] ys o h = absurd (cc)
found_front (x ∷ xs) ys o h = by_number (nat_eq x.number.0 o.0) h (found_front xs ys o)
  where
    by_number : (b : Bool) → is_there (cond b (Some x) (found xs o)) ≡ true → (is_there (found xs o) ≡ true → is_there (found (xs ++ ys) o) ≡ true) → is_there (cond b (Some x) (found (xs ++ ys) o)) ≡ true
    by_number true h later = refl
    by_number false h later = later h

marked_front : (xs ys : List Object) (o : ObjNo) → is_there (found xs o) ≡ true → is_marked (xs ++ ys) o ≡ is_marked xs o
marked_front [] ys o h = absurd (cc)
marked_front (x ∷ xs) ys o h = by_number (nat_eq x.number.0 o.0) h (marked_front xs ys o)
  where
    by_number : (b : Bool) → is_there (cond b (Some x) (found xs o)) ≡ true → (is_there (found xs o) ≡ true → is_marked (xs ++ ys) o ≡ is_marked xs o) → cond b x.condemned (is_marked (xs ++ ys) o) ≡ cond b x.condemned (is_marked xs o)
    by_number true h later = refl
    by_number false h later = later h

pub still_owns : (xs ys : List Object) (o : Option ObjNo) → MayOwn xs o → MayOwn (xs ++ ys) o
still_owns xs ys None h = tt
still_owns xs ys (Some o) h = (found_front xs ys o h.0, marked_front xs ys o h.0 ∙ h.1)
