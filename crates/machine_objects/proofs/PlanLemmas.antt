-- The plan of an object as the machine has it.
use Rattle.std.proofs.Common.{◌≡◌, ◌∙◌, ap, subst, ℕ, suc, ◌+◌, ◌<◌, [], length, None, Result, Ok, Err, IfOk, IfErr, arith}
use Rattle.instance_plans.specs.Plans.{full}
use Rattle.qml_scope.specs.Shapes.{Known}
use Rattle.instancing.specs.declared.numbers.NumbersFault.{NumbersFault}
use Rattle.instancing.specs.declared.numbers.NumbersFault.TheVariants as fault
use Rattle.instancing.proofs.GrowthLemmas.{one_at_least}
use Rattle.object_plans.specs.declared.planning.Order.{Order}
use Rattle.object_plans.specs.declared.planning.Instance.{Instance}
use Rattle.object_plans.specs.Planning.{planned_with, instance_planned, Makes, objects_of_plan}
use Rattle.object_plans.proofs.PlanLemmas.{full_so}
use Rattle.machine_model.specs.State.{Machine}
use Rattle.machine_model.specs.Making.{room, alone_planned}
use Rattle.machine_objects.specs.Adding.{order_alone, PlansAlone}

order_is : (m : Machine) (u o n r : ℕ) → n ≡ m.given + 1 → r ≡ room m
    → record { unit = u; object = o; enclosing = None; owner = None; first = n; room = r } ≡ order_alone u o m
order_is m u o n r e f =
    let next : n ≡ suc m.given = omega arith in
    ap (λ k. record { unit = u; object = o; enclosing = None; owner = None; first = k; room = r }) next
    ∙ ap (λ k. record { unit = u; object = o; enclosing = None; owner = None; first = suc m.given; room = k }) f

pub planned_alone : (m : Machine) (u o n r : ℕ) (i : Instance) → n ≡ m.given + 1 → r ≡ room m
    → planned_with m.units m.known (record { unit = u; object = o; enclosing = None; owner = None; first = n; room = r }) [] []
    ≡ Ok (instance_planned m.units m.known (record { unit = u; object = o; enclosing = None; owner = None; first = n; room = r }) [] [])
    → Makes m.units m.known (record { unit = u; object = o; enclosing = None; owner = None; first = n; room = r }) [] i
    → PlansAlone u o m i
planned_alone m u o n r i e f planned makes =
    let same = order_is m u o n r e f in
    record {
      planned = subst (λ (x : Order). planned_with m.units m.known x [] [] ≡ Ok (instance_planned m.units m.known x [] [])) same planned;
      makes = subst (λ (x : Order). Makes m.units m.known x [] i) same makes;
    }

pub full_alone : (m : Machine) (u o n r : ℕ) → n ≡ m.given + 1 → r ≡ room m
    → planned_with m.units m.known (record { unit = u; object = o; enclosing = None; owner = None; first = n; room = r }) [] [] ≡ Err full
    → alone_planned u o m ≡ Err full
full_alone m u o n r e f h = subst (λ (x : Order). planned_with m.units m.known x [] [] ≡ Err full) (order_is m u o n r e f) h

-- there is one object at least
pub no_room : (m : Machine) (u o : ℕ) → room m ≡ 0 → alone_planned u o m ≡ Err full
no_room m u o e =
    let some : 0 < length (objects_of_plan m.units (order_alone u o m)) = one_at_least m.units u o (suc m.given) None None in
    let more : room m < length (objects_of_plan m.units (order_alone u o m)) = omega arith in
    full_so m.units m.known (order_alone u o m) [] more

-- ---- the answer of the plan

abbrev order_with : ℕ → ℕ → ℕ → ℕ → Order
order_with u o n r = record { unit = u; object = o; enclosing = None; owner = None; first = n; room = r }

pub planned_if : (m : Machine) (known : Known) (u o n r : ℕ) (result : Result Instance NumbersFault) → known ≡ m.known → n ≡ m.given + 1 → r ≡ room m
    → IfOk result (λ i. planned_with m.units known (order_with u o n r) [] [] ≡ Ok (instance_planned m.units known (order_with u o n r) [] []))
    → IfOk result (λ i. Makes m.units known (order_with u o n r) [] i)
    → IfOk result (λ i. PlansAlone u o m i)
planned_if m known u o n r (Err f) k e h planned makes = tt
planned_if m known u o n r (Ok i) k e h planned makes =
    planned_alone m u o n r i e h
    (subst (λ x. planned_with m.units x (order_with u o n r) [] [] ≡ Ok (instance_planned m.units x (order_with u o n r) [] [])) k planned)
    (subst (λ x. Makes m.units x (order_with u o n r) [] i) k makes)

pub full_if : (m : Machine) (known : Known) (u o n r : ℕ) (result : Result Instance NumbersFault) → known ≡ m.known → n ≡ m.given + 1 → r ≡ room m
    → IfErr result (λ e. e ≡ fault.Full → planned_with m.units known (order_with u o n r) [] [] ≡ Err full)
    → IfErr result (λ e. e ≡ fault.Full → alone_planned u o m ≡ Err full)
full_if m known u o n r (Ok i) k e h f = tt
full_if m known u o n r (Err x) k e h f = λ is. full_alone m u o n r e h (subst (λ y. planned_with m.units y (order_with u o n r) [] [] ≡ Err full) k (f is))
