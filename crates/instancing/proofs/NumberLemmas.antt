-- The objects of a plan count up from its first number on, and own one another.
use Rattle.std.proofs.Common.{◌≡◌, ◌∙◌, ap, sym, subst, refl, ℕ, zero, suc, ◌+◌, ◌≤◌, ◌<◌, ◌⊎◌, inl, inr, Bool, true, false, cond, not, ◌&&◌, nat_eq, List, [], ◌∷◌, ◌++◌, length, Option, Some, None, arith}
use Rattle.std.specs.Option.{option_and_then}
use Rattle.qml_types.specs.declared.kind.TypeRef.{TypeRef}
use Rattle.qml_types.specs.declared.kind.TypeRef.TheVariants.{Builtin, Document}
use Rattle.instance_plans.specs.Numbers.{AllRows, Plan, Going, row_at, component_at, number_in, inside, placed, each_placed, inner_within, with_planned, planned_from}
use Rattle.instance_plans.specs.declared.planned.Planned.{Planned}
use Rattle.instancing.specs.Numbered.{AreNumbered, IsOwned, AreOwned}
use Rattle.instancing.specs.Stack.{going, but_root, plan_of}
use Rattle.instancing.proofs.GrowthLemmas.{within_grows}

-- a plan whose objects count up to the next number, each owned by one before, or as the whole plan is
pub record Counts (first : ℕ) (owner : Option ℕ) (p : Plan) : Type 0 where
  pub numbered : AreNumbered first p.objects
  pub next : p.next ≡ first + length p.objects
  pub owned : AreOwned first owner p.objects

one_more : (n m : ℕ) (xs : List Planned) (x : Planned) → AreNumbered n xs → m ≡ n + length xs → x.number ≡ m → AreNumbered n (xs ++ x ∷ [])
one_more n m [] x h e f = (f ∙ (let same : m ≡ n = omega arith in same), tt)
one_more n m (y ∷ ys) x h e f = (h.0, one_more (suc n) m ys x h.1 (omega arith) f)

one_owned : (first : ℕ) (owner : Option ℕ) (xs : List Planned) (x : Planned) → AreOwned first owner xs → IsOwned first owner x → AreOwned first owner (xs ++ x ∷ [])
one_owned first owner [] x h e = (e, tt)
one_owned first owner (y ∷ ys) x h e = (h.0, one_owned first owner ys x h.1 e)

longer : (xs : List Planned) (x : Planned) → length (xs ++ x ∷ []) ≡ suc (length xs)
longer [] x = refl
longer (y ∷ ys) x = ap suc (longer ys x)

planned_counts : (first : ℕ) (owner : Option ℕ) (x : Planned) (p : Plan) → x.number ≡ p.next → IsOwned first owner x → Counts first owner p → Counts first owner (with_planned x p)
planned_counts first owner x p e o h = record {
  numbered = one_more first p.next p.objects x h.numbered h.next e;
  next = let more = longer p.objects x in let before = h.next in omega arith;
  owned = one_owned first owner p.objects x h.owned o;
}

-- ---- the numbers that an instance has given are those of objects before

abbrev Given : ℕ → ℕ → List (ℕ × ℕ) → Type 0
Given first next [] = Unit {0}
Given first next (at ∷ rest) = (first ≤ at.1) × (at.1 < next) × Given first next rest

given_later : (first next later : ℕ) (xs : List (ℕ × ℕ)) → next ≤ later → Given first next xs → Given first later xs
given_later first next later [] more h = tt
given_later first next later (at ∷ xs) more h = (h.0, (let less = h.1 in let sum : at.1 < later = omega arith in sum), given_later first next later xs more h.2)

given_more : (first next m : ℕ) (xs : List (ℕ × ℕ)) (o : ℕ) → first ≤ m → m < next → Given first next xs → Given first next (xs ++ (o, m) ∷ [])
given_more first next m [] o least less h = (least, less, tt)
given_more first next m (at ∷ xs) o least less h = (h.0, h.1, given_more first next m xs o least less h.2)

found_by : (first next : ℕ) (b : Bool) (m n : ℕ) (rest : Option ℕ) → (first ≤ m) → (m < next) → (rest ≡ Some n → (first ≤ n) × (n < next))
    → cond b (Some m) rest ≡ Some n → (first ≤ n) × (n < next)
found_by first next true m n rest least less more e = let same : m ≡ n = cc in ((let a : first ≤ n = omega arith in a), (let b : n < next = omega arith in b))
found_by first next false m n rest least less more e = more e

number_given : (first next : ℕ) (xs : List (ℕ × ℕ)) (o n : ℕ) → Given first next xs → number_in xs o ≡ Some n → (first ≤ n) × (n < next)
number_given first next [] o n h e = absurd (cc)
number_given first next (at ∷ xs) o n h e = found_by first next (nat_eq at.0 o) at.1 n (number_in xs o) h.0 h.1 (number_given first next xs o n h.2) e

owner_given : (first next : ℕ) (xs : List (ℕ × ℕ)) (o : Option ℕ) → Given first next xs → (n : ℕ) → option_and_then (number_in xs) o ≡ Some n → (first ≤ n) × (n < next)
owner_given first next xs None h n e = absurd (cc)
owner_given first next xs (Some o) h n e = number_given first next xs o n h e

module _ (first : ℕ) (owner : Option ℕ) (F : TypeRef → ℕ → Plan → Plan)
    (keeps : (t : TypeRef) (n : ℕ) (p : Plan) → first ≤ n → n < p.next → Counts first owner p → Counts first owner (F t n p))
    (grows : (t : TypeRef) (n : ℕ) (p : Plan) → length p.objects ≤ length (F t n p).objects) where
  inside_counts : (b : Bool) (t : TypeRef) (n : ℕ) (p : Plan) → first ≤ n → n < p.next → Counts first owner p → Counts first owner (inside F b t n p)
  inside_counts true t n p least less h = h
  inside_counts false t n p least less h = keeps t n p least less h

  inside_longer : (b : Bool) (t : TypeRef) (n : ℕ) (p : Plan) → length p.objects ≤ length (inside F b t n p).objects
  inside_longer true t n p = omega arith
  inside_longer false t n p = grows t n p

  each_counts : (units : AllRows) (u r : ℕ) (g : Going) (os : List ℕ) → Given first g.plan.next g.numbers → Counts first owner g.plan → Counts first owner (each_placed F units u r g os).plan
  each_counts units u r g [] given h = h
  each_counts units u r g (o ∷ os) given h =
      let b = (row_at units u o).is_held && not (nat_eq o r) in
      let t = (row_at units u o).of_type in
      let x : Planned = record { number = g.plan.next; unit = u; object = o; is_around = b; owner = option_and_then (number_in g.numbers) (row_at units u o).owner } in
      let one = planned_counts first owner x g.plan refl (inr (owner_given first g.plan.next g.numbers (row_at units u o).owner given)) h in
      let here = h.next in
      let least : first ≤ g.plan.next = omega arith in
      let below : g.plan.next < suc g.plan.next = omega arith in
      let after = inside_counts b t g.plan.next (with_planned x g.plan) least below one in
      let there = after.next in
      let more = inside_longer b t g.plan.next (with_planned x g.plan) in
      let longer_by = longer g.plan.objects x in
      let less : g.plan.next < (inside F b t g.plan.next (with_planned x g.plan)).next = omega arith in
      let before : g.plan.next ≤ (inside F b t g.plan.next (with_planned x g.plan)).next = omega arith in
      each_counts units u r (placed F units u r g o) os
      (given_more first (inside F b t g.plan.next (with_planned x g.plan)).next g.plan.next g.numbers o least less
      (given_later first g.plan.next (inside F b t g.plan.next (with_planned x g.plan)).next g.numbers before given)) after

within_counts : (first : ℕ) (owner : Option ℕ) (k : ℕ) (units : AllRows) (t : TypeRef) (n : ℕ) (p : Plan) → first ≤ n → n < p.next → Counts first owner p → Counts first owner (inner_within k units t n p)
within_counts first owner zero units t n p least less h = h
within_counts first owner (suc k) units (Builtin t) n p least less h = h
within_counts first owner (suc k) units (Document d) n p least less h =
    let base = within_counts first owner k units (row_at units d.0 0).of_type n p least less h in
    let more = within_grows k units (row_at units d.0 0).of_type n p in
    let here = h.next in
    let there = base.next in
    let below : n < (inner_within k units (row_at units d.0 0).of_type n p).next = omega arith in
    let all = each_counts first owner (λ t n p. inner_within k units t n p) (within_counts first owner k units) (within_grows k units) units d.0 0 (going ((0, n) ∷ []) (inner_within k units (row_at units d.0 0).of_type n p)) (but_root 0 (component_at units d.0 0).standing) (least, below, tt) base in
    record { numbered = all.numbered; next = all.next; owned = all.owned }

plan_counts : (units : AllRows) (u r first : ℕ) (enclosing owner : Option ℕ) → Counts first owner (planned_from units u r enclosing owner first)
plan_counts units u r first enclosing owner =
    let x : Planned = record { number = first; unit = u; object = r; is_around = false; owner = owner } in
    let begins : Plan = record { next = suc first; objects = x ∷ []; instances = [] } in
    let k = suc (length units) in
    let least : first ≤ first = omega arith in
    let less : first < suc first = omega arith in
    let begun : Counts first owner begins = record { numbered = (refl, tt); next = omega arith; owned = (inl refl, tt) } in
    let base = within_counts first owner k units (row_at units u r).of_type first begins least less begun in
    let more = within_grows k units (row_at units u r).of_type first begins in
    let there = base.next in
    let below : first < (inner_within k units (row_at units u r).of_type first begins).next = omega arith in
    let all = each_counts first owner (λ t n p. inner_within k units t n p) (within_counts first owner k units) (within_grows k units) units u r (going ((r, first) ∷ []) (inner_within k units (row_at units u r).of_type first begins)) (but_root r (component_at units u r).standing) (least, below, tt) base in
    record { numbered = all.numbered; next = all.next; owned = all.owned }

pub are_numbered : (units : AllRows) (u r first : ℕ) (enclosing owner : Option ℕ) (objects : List Planned) (instances : _) → plan_of first objects instances ≡ planned_from units u r enclosing owner first → AreNumbered first objects
are_numbered units u r first enclosing owner objects instances e = subst (λ (p : Plan). AreNumbered first p.objects) (sym e) (plan_counts units u r first enclosing owner).numbered

pub are_owned : (units : AllRows) (u r first : ℕ) (enclosing owner : Option ℕ) (objects : List Planned) (instances : _) → plan_of first objects instances ≡ planned_from units u r enclosing owner first → AreOwned first owner objects
are_owned units u r first enclosing owner objects instances e = subst (λ (p : Plan). AreOwned first owner p.objects) (sym e) (plan_counts units u r first enclosing owner).owned
