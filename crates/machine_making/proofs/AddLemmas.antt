-- One object more, and all that are left.
use Rattle.std.proofs.Common.{◌≡◌, ◌∙◌, ap, sym, refl, ℕ, suc, ◌+◌, ◌≤◌, ◌<◌, ◌⊎◌, inl, inr, false, List, [], ◌∷◌, ◌++◌, append_assoc, map, reverse, length, Option, Some, None, arith}
use Rattle.std.proofs.lemmas.Bool.{cases_lt}
use Rattle.std.proofs.lemmas.List.{append-nil, reverse-append}
use Rattle.std.specs.Option.{option_map}
use Rattle.qml_base.specs.declared.numbers.ObjNo.{ObjNo}
use Rattle.trace_print.specs.declared.entry.Entry.{Entry}
use Rattle.tree_model.specs.declared.cells.Object.{Object}
use Rattle.object_tree.specs.Trees.{MayOwn, AllUpTo}
use Rattle.instance_plans.specs.Numbers.{object_no}
use Rattle.instance_contents.specs.Making.{Looks}
use Rattle.instance_contents.specs.declared.objects.MadeObject.{MadeObject}
use Rattle.instance_contents.specs.Objects.{looks}
use Rattle.live_tree.specs.Live.{Live}
use Rattle.machine_making.specs.Adding.{objects_added, cells_added, types_added, made_told, starting, if_starts, OwnedBefore, AddsObjects, TellsObjects}
use Rattle.machine_making.proofs.OwnerLemmas.{may_own, still_owns}

-- what was added, with what is left, is all
pub record Going (origin : Option ObjNo) (all : List Looks) (old now : Live) (left : List Looks) : Type 0 where
  pub objects : now.tree.objects ++ objects_added origin (suc now.given) left ≡ old.tree.objects ++ objects_added origin (suc old.given) all
  pub cells : now.tree.cells ++ cells_added (suc now.given) left ≡ old.tree.cells ++ cells_added (suc old.given) all
  pub given : now.given + length left ≡ old.given + length all
  pub instances : now.known.instances ≡ old.known.instances
  pub told : now.known.told ++ types_added (suc now.given) left ≡ old.known.told ++ types_added (suc old.given) all
  pub up_to : AllUpTo now.given now.tree.objects
  pub owns : (p : ℕ) → old.given < p → p ≤ now.given → MayOwn now.tree.objects (Some (object_no p))
  pub may : MayOwn now.tree.objects origin
  pub owned : OwnedBefore (suc old.given) (suc now.given) left

pub begins : (origin : Option ObjNo) (all : List Looks) (live : Live) → AllUpTo live.given live.tree.objects → MayOwn live.tree.objects origin
    → OwnedBefore (suc live.given) (suc live.given) all → Going origin all live live all
begins origin all live h o owned = record {
  objects = refl;
  cells = refl;
  given = refl;
  instances = refl;
  told = refl;
  up_to = h;
  owns = λ p more less. absurd (omega arith);
  may = o;
  owned = owned;
}

up_to_more : (n m : ℕ) (xs : List Object) (x : Object) → n ≤ m → x.number.0 ≤ m → AllUpTo n xs → AllUpTo m (xs ++ x ∷ [])
up_to_more n m [] x more less h = (less, tt)
up_to_more n m (y ∷ ys) x more less h = let one = h.0 in ((let a : y.number.0 ≤ m = omega arith in a), up_to_more n m ys x more less h.1)

-- the owner of the next
pub owner_may : (origin : Option ObjNo) (all : List Looks) (old now : Live) (x : Looks) (left : List Looks) → Going origin all old now (x ∷ left) → MayOwn now.tree.objects (option_map object_no x.owner)
owner_may origin all old now x left g = by_owner x.owner g.owned.0
  where
    by_owner : (o : Option ℕ) → ((p : ℕ) → o ≡ Some p → (suc old.given ≤ p) × (p < suc now.given)) → MayOwn now.tree.objects (option_map object_no o)
    by_owner None h = tt
    by_owner (Some p) h = let found = h p refl in let least = found.0 in let less = found.1 in g.owns p (omega arith) (omega arith)

one_front : {A : Type 0} (now next more all : List A) (x rest : List A) → next ≡ now ++ x → now ++ (x ++ rest) ≡ all → next ++ rest ≡ all
one_front now next more all x rest e f = ap (λ xs. xs ++ rest) e ∙ append_assoc now x rest ∙ f

pub goes_on : (origin : Option ObjNo) (all : List Looks) (old now next : Live) (x : Looks) (left : List Looks) → Going origin all old now (x ∷ left) → AddsObjects origin (x ∷ []) now next → Going origin all old next left
goes_on origin all old now next x left g a =
    let given : next.given ≡ suc now.given = a.given ∙ (let s : now.given + 1 ≡ suc now.given = omega arith in s) in
    record {
      objects = ap (λ n. next.tree.objects ++ objects_added origin (suc n) left) given ∙ ap (λ xs. xs ++ objects_added origin (suc (suc now.given)) left) a.objects ∙ append_assoc now.tree.objects (objects_added origin (suc now.given) (x ∷ [])) (objects_added origin (suc (suc now.given)) left) ∙ g.objects;
      cells = ap (λ n. next.tree.cells ++ cells_added (suc n) left) given ∙ ap (λ xs. xs ++ cells_added (suc (suc now.given)) left) a.cells ∙ append_assoc now.tree.cells (cells_added (suc now.given) (x ∷ [])) (cells_added (suc (suc now.given)) left)
          ∙ ap (λ xs. now.tree.cells ++ xs) (append_assoc _ [] (cells_added (suc (suc now.given)) left)) ∙ g.cells;
      given = (let was = g.given in let sum : next.given + length left ≡ old.given + length all = omega (arith, given) in sum);
      instances = a.instances ∙ g.instances;
      told = ap (λ n. next.known.told ++ types_added (suc n) left) given ∙ ap (λ xs. xs ++ types_added (suc (suc now.given)) left) a.told ∙ append_assoc now.known.told (types_added (suc now.given) (x ∷ [])) (types_added (suc (suc now.given)) left) ∙ g.told;
      up_to = rw (given, a.objects) (up_to_more now.given (suc now.given) now.tree.objects (record { number = object_no (suc now.given); owner = option_map object_no x.owner; origin = origin; condemned = false }) (omega arith) (omega arith) g.up_to);
      owns = λ p more less. rw a.objects (by_place p more (let n : p ≤ suc now.given = omega (arith, given) in n) (cases_lt now.given p));
      may = rw a.objects (still_owns now.tree.objects (objects_added origin (suc now.given) (x ∷ [])) origin g.may);
      owned = rw given g.owned.1;
    }
  where
    by_place : (p : ℕ) → old.given < p → p ≤ suc now.given → (now.given < p) ⊎ (p ≤ now.given) → MayOwn (now.tree.objects ++ objects_added origin (suc now.given) (x ∷ [])) (Some (object_no p))
    by_place p more less (inl above) = may_own origin now.given p now.tree.objects (x ∷ []) g.up_to above (omega arith)
    by_place p more less (inr below) = still_owns now.tree.objects (objects_added origin (suc now.given) (x ∷ [])) (Some (object_no p)) (g.owns p more below)

pub ends : (origin : Option ObjNo) (all : List Looks) (old now : Live) → Going origin all old now [] → AddsObjects origin all old now
ends origin all old now g = record {
  objects = sym (append-nil now.tree.objects) ∙ g.objects;
  cells = sym (append-nil now.tree.cells) ∙ g.cells;
  given = (let was = g.given in let sum : now.given ≡ old.given + length all = omega arith in sum);
  instances = g.instances;
  told = sym (append-nil now.known.told) ∙ g.told;
}

-- ---- what is told

pub record Telling (all : List Looks) (given now : ℕ) (left : List Looks) (old trace : List Entry) (before starts : List ObjNo) : Type 0 where
  pub told : trace ++ made_told (suc now) left ≡ old ++ made_told (suc given) all
  pub starting : starts ++ starting (suc now) left ≡ before ++ starting (suc given) all

pub tells_on : (all : List Looks) (given now later : ℕ) (x : Looks) (left : List Looks) (old trace longer : List Entry) (before starts more : List ObjNo)
    → Telling all given now (x ∷ left) old trace before starts → later ≡ suc now → TellsObjects now (x ∷ []) trace longer starts more → Telling all given later left old longer before more
tells_on all given now later x left old trace longer before starts more g e t = record {
  told = ap (λ n. longer ++ made_told (suc n) left) e ∙ ap (λ xs. xs ++ made_told (suc (suc now)) left) t.trace ∙ append_assoc trace (made_told (suc now) (x ∷ [])) (made_told (suc (suc now)) left) ∙ g.told;
  starting = ap (λ n. more ++ starting (suc n) left) e ∙ ap (λ xs. xs ++ starting (suc (suc now)) left) t.starts ∙ append_assoc starts (starting (suc now) (x ∷ [])) (starting (suc (suc now)) left)
      ∙ ap (λ xs. starts ++ xs) (append_assoc (if_starts x.starts (object_no (suc now))) [] (starting (suc (suc now)) left)) ∙ g.starting;
}

pub tells_all : (all : List Looks) (given now : ℕ) (old trace : List Entry) (before starts : List ObjNo) → Telling all given now [] old trace before starts → TellsObjects given all old trace before starts
tells_all all given now old trace before starts g = record {
  trace = sym (append-nil trace) ∙ g.told;
  starts = sym (append-nil starts) ∙ g.starting;
}

-- ---- what is left lies the other way round

pub next_left : (xs rest : List MadeObject) (x : MadeObject) → xs ≡ rest ++ x ∷ [] → map looks (reverse xs) ≡ looks x ∷ map looks (reverse rest)
next_left xs rest x e = ap (λ ys. map looks (reverse ys)) e ∙ ap (map looks) (reverse-append rest (x ∷ []))

pub one_given : (origin : Option ObjNo) (x : Looks) (now next : Live) → AddsObjects origin (x ∷ []) now next → next.given ≡ suc now.given
one_given origin x now next a = a.given ∙ (let s : now.given + 1 ≡ suc now.given = omega arith in s)
