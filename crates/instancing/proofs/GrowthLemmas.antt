-- A plan under way has no more objects than it comes to.
use Rattle.std.proofs.Common.{◌≡◌, ◌∙◌, ap, sym, subst, refl, ℕ, zero, suc, ◌+◌, ◌<◌, ◌≤◌, Bool, true, false, not, ◌&&◌, nat_eq, List, [], ◌∷◌, ◌++◌, length, arith}
use Rattle.std.specs.Option.{option_and_then}
use Rattle.std.specs.declared.option.Option.{Option}
use Rattle.qml_types.specs.declared.kind.TypeRef.{TypeRef}
use Rattle.qml_types.specs.declared.kind.TypeRef.TheVariants.{Builtin, Document}
use Rattle.instance_plans.specs.Numbers.{AllRows, Plan, Going, row_at, component_at, number_in, inside, placed, each_placed, finished, inner_within, with_planned, planned_from}
use Rattle.instance_plans.specs.declared.planned.Planned.{Planned}
use Rattle.instancing.specs.Stack.{Open, going, resumed, but_root, with_left, next_left, with_number, around, planned_in, added, begun}
use Rattle.instancing.proofs.StackLemmas.{one_placed, next_is_left}

abbrev Grows : Plan → Plan → Type 0
Grows before after = length before.objects ≤ length after.objects

one_longer : (xs : List Planned) (x : Planned) → length (xs ++ x ∷ []) ≡ suc (length xs)
one_longer [] x = refl
one_longer (y ∷ ys) x = ap suc (one_longer ys x)

module _ (F : TypeRef → ℕ → Plan → Plan) (grows : (t : TypeRef) (n : ℕ) (p : Plan) → Grows p (F t n p)) where
  inside_grows : (b : Bool) (t : TypeRef) (n : ℕ) (x : Planned) (p : Plan) → length p.objects < length (inside F b t n (with_planned x p)).objects
  inside_grows true t n x p = let one = one_longer p.objects x in omega arith
  inside_grows false t n x p = let one = one_longer p.objects x in let more = grows t n (with_planned x p) in omega arith

  each_grows : (units : AllRows) (u r : ℕ) (g : Going) (os : List ℕ) → Grows g.plan (each_placed F units u r g os).plan
  each_grows units u r g [] = omega arith
  each_grows units u r g (o ∷ os) =
      let b = (row_at units u o).is_held && not (nat_eq o r) in
      let x : Planned = record { number = g.plan.next; unit = u; object = o; is_around = b; owner = option_and_then (number_in g.numbers) (row_at units u o).owner } in
      let one = inside_grows b (row_at units u o).of_type g.plan.next x g.plan in
      let more = each_grows units u r (placed F units u r g o) os in
      omega arith

pub within_grows : (k : ℕ) (units : AllRows) (t : TypeRef) (n : ℕ) (p : Plan) → Grows p (inner_within k units t n p)
within_grows zero units t n p = omega arith
within_grows (suc k) units (Builtin t) n p = omega arith
within_grows (suc k) units (Document d) n p =
    let one = within_grows k units (row_at units d.0 0).of_type n p in
    let more = each_grows (λ t n p. inner_within k units t n p) (within_grows k units) units d.0 0 (going ((0, n) ∷ []) (inner_within k units (row_at units d.0 0).of_type n p)) (but_root 0 (component_at units d.0 0).standing) in
    omega arith

pub resumed_grows : (units : AllRows) (os : List Open) (p : Plan) → Grows p (resumed units os p)
resumed_grows units [] p = omega arith
resumed_grows units (f ∷ os) p =
    let after = each_placed (λ t n p. inner_within f.depth units t n p) units f.unit f.component (going f.numbers p) f.left in
    let one = each_grows (λ t n p. inner_within f.depth units t n p) (within_grows f.depth units) units f.unit f.component (going f.numbers p) f.left in
    let more = resumed_grows units os (finished f.unit f.component f.root f.enclosing after) in
    omega arith

pub one_more_object : (units : AllRows) (os : List Open) (f : Open) (o : ℕ) (p : Plan) → length p.objects < length (resumed units (with_left o f ∷ os) p).objects
one_more_object units os f o p =
    let one = inside_grows (λ t n p. inner_within f.depth units t n p) (within_grows f.depth units) (around units f o) (row_at units f.unit o).of_type p.next (planned_in units f o p.next) p in
    let more = resumed_grows units (with_number o p.next f ∷ os) (added units f.depth (around units f o) (row_at units f.unit o).of_type p.next (with_planned (planned_in units f o p.next) p)) in
    let grown : length p.objects < length (resumed units (with_number o p.next f ∷ os) (added units f.depth (around units f o) (row_at units f.unit o).of_type p.next (with_planned (planned_in units f o p.next) p))).objects = omega arith in
    subst (λ (q : Plan). length p.objects < length q.objects) (sym (one_placed units os f o p)) grown

-- no room is left, and the next object is not the root
pub full_next : (units : AllRows) (os : List Open) (f : Open) (o room : ℕ) (p : Plan) → nat_eq o f.component ≡ false → room ≤ length p.objects → room < length (resumed units (next_left o f ∷ os) p).objects
full_next units os f o room p other past =
    let one = one_more_object units os f o p in
    let most : room < length (resumed units (with_left o f ∷ os) p).objects = omega arith in
    subst (λ (g : Open). room < length (resumed units (g ∷ os) p).objects) (sym (next_is_left o f other)) most

-- there is at least one object
pub one_at_least : (units : AllRows) (u r first : ℕ) (enclosing owner : Option ℕ) → 0 < length (planned_from units u r enclosing owner first).objects
one_at_least units u r first enclosing owner =
    let x : Planned = record { number = first; unit = u; object = r; is_around = false; owner = owner } in
    let begins : Plan = record { next = suc first; objects = x ∷ []; instances = [] } in
    let one = within_grows (suc (length units)) units (row_at units u r).of_type first begins in
    let more = resumed_grows units (begun units u r first enclosing (suc (length units)) ∷ []) (inner_within (suc (length units)) units (row_at units u r).of_type first begins) in
    omega arith
