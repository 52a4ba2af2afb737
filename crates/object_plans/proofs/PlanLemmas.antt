-- From the tables of a plan to the definitions.
use Rattle.std.proofs.Common.{◌≡◌, ◌∙◌, ap, sym, subst, refl, ℕ, ◌+◌, ◌≤◌, ◌<◌, nat_le, Bool, true, false, List, [], map, length, Result, Ok, Err, arith}
use Rattle.std.proofs.lemmas.Simd.{map-map}
use Rattle.qml_value.specs.declared.value.Value.{Value}
use Rattle.qml_scope.specs.declared.shape.Shape.{Shape}
use Rattle.qml_scope.specs.Shapes.{Known}
use Rattle.instance_plans.specs.declared.planned.Planned.{Planned}
use Rattle.instance_plans.specs.declared.planned.PlannedInstance.{PlannedInstance}
use Rattle.instance_plans.specs.Numbers.{AllRows, Plan, planned_from}
use Rattle.instance_plans.specs.Contents.{all_given}
use Rattle.instance_plans.specs.Shaped.{shape_made}
use Rattle.instance_plans.specs.Plans.{full, instance_made, unless_full}
use Rattle.instancing.specs.Stack.{plan_of}
use Rattle.instancing.specs.Numbered.{AreNumbered, AreOwned}
use Rattle.instance_contents.specs.declared.tables.Tables.{Tables}
use Rattle.instance_contents.specs.declared.objects.MadeObject.{MadeObject}
use Rattle.instance_contents.specs.Tables.{rows_in, live_in, plan_in}
use Rattle.instance_contents.specs.Making.{looks_of, object_of}
use Rattle.instance_contents.specs.Objects.{looks}
use Rattle.instance_shapes.specs.Shapes.{shapes_of_plan}
use Rattle.object_plans.specs.declared.planning.Order.{Order}
use Rattle.object_plans.specs.declared.planning.Instance.{Instance}
use Rattle.object_plans.specs.Planning.{Delegates, delegate_values, plan_of_order, objects_of_plan, planned_with, instance_planned, Makes, IsPlanOf, MadeBy}

pub plan_is : (t : Tables) (units : AllRows) (live : Known) (o : Order) (objects : List Planned) (instances : List PlannedInstance)
    → plan_of o.first objects instances ≡ planned_from units o.unit o.object o.enclosing o.owner o.first → length objects ≤ o.room
    → AreNumbered o.first objects → AreOwned o.first o.owner objects
    → rows_in t ≡ units → live_in t ≡ live → plan_in t ≡ plan_of o.first objects instances → IsPlanOf units live o t
plan_is t units live o objects instances e few numbered owned rows live_so same =
    let counted : t.first + length t.objects.items ≡ o.first + length objects = ap (λ (p : Plan). p.next) same in
    let as_many : length t.objects.items ≡ length objects = ap (λ (p : Plan). length p.objects) same in
    let are : t.objects.items ≡ objects = ap (λ (p : Plan). p.objects) same in
    let all : length objects ≡ length (objects_of_plan units o) = ap (λ (p : Plan). length p.objects) e in
    record {
      rows = rows;
      live_so = live_so;
      plan = same ∙ e;
      first = omega arith;
      within = omega arith;
      numbered = subst (λ xs. AreNumbered o.first xs) (sym are) numbered;
      owned = subst (λ xs. AreOwned o.first o.owner xs) (sym are) owned;
    }

pub made_by : (t : Tables) (o : Order) (delegates : Delegates) (made : List MadeObject) (shapes : List Shape)
    → map looks made ≡ map (object_of t (delegate_values delegates)) t.objects.items → shapes ≡ shapes_of_plan t o.unit o.object delegates → MadeBy t o delegates made shapes
made_by t o delegates made shapes e f = record { objects = e; names = f }

-- ---- where the plan has room, and where it hasn't

fits : (a b : ℕ) → a ≤ b → nat_le a b ≡ true
fits a b h = grind (arith)

past : (a b : ℕ) → b < a → nat_le a b ≡ false
past a b h = grind (arith)

pub planned_so : (t : Tables) (units : AllRows) (live : Known) (o : Order) (delegates : Delegates) → IsPlanOf units live o t
    → planned_with units live o delegates [] ≡ Ok (instance_planned units live o delegates [])
planned_so t units live o delegates h =
    let plan = plan_of_order units o in
    ap (λ b. unless_full units live plan (all_given units live plan) b (instance_planned units live o delegates [])) (fits (length plan.objects) o.room h.within)

pub full_so : (units : AllRows) (live : Known) (o : Order) (delegates : Delegates) → o.room < length (objects_of_plan units o)
    → planned_with units live o delegates [] ≡ Err full
full_so units live o delegates h =
    let plan = plan_of_order units o in
    ap (λ b. unless_full units live plan (all_given units live plan) b (instance_planned units live o delegates [])) (past (length plan.objects) o.room h)

-- ---- what is made

objects_so : (t : Tables) (units : AllRows) (live : Known) (o : Order) (delegates : Delegates) → IsPlanOf units live o t
    → map (object_of t (delegate_values delegates)) t.objects.items ≡ map looks_of (instance_planned units live o delegates []).objects
objects_so t units live o delegates h =
    sym (map-map looks_of _ t.objects.items)
    ∙ ap (λ us. map looks_of (instance_made us (live_in t) (plan_in t) (all_given us (live_in t) (plan_in t)) o.unit o.object t.first delegates []).objects) h.rows
    ∙ ap (λ k. map looks_of (instance_made units k (plan_in t) (all_given units k (plan_in t)) o.unit o.object t.first delegates []).objects) h.live_so
    ∙ ap (λ p. map looks_of (instance_made units live p (all_given units live p) o.unit o.object t.first delegates []).objects) h.plan
    ∙ ap (λ n. map looks_of (instance_made units live (plan_of_order units o) (all_given units live (plan_of_order units o)) o.unit o.object n delegates []).objects) h.first

names_so : (t : Tables) (units : AllRows) (live : Known) (o : Order) (delegates : Delegates) → IsPlanOf units live o t
    → shapes_of_plan t o.unit o.object delegates ≡ map shape_made (instance_planned units live o delegates []).names
names_so t units live o delegates h =
    ap (λ us. map shape_made (instance_made us (live_in t) (plan_in t) (all_given us (live_in t) (plan_in t)) o.unit o.object t.first delegates []).names) h.rows
    ∙ ap (λ k. map shape_made (instance_made units k (plan_in t) (all_given units k (plan_in t)) o.unit o.object t.first delegates []).names) h.live_so
    ∙ ap (λ p. map shape_made (instance_made units live p (all_given units live p) o.unit o.object t.first delegates []).names) h.plan
    ∙ ap (λ n. map shape_made (instance_made units live (plan_of_order units o) (all_given units live (plan_of_order units o)) o.unit o.object n delegates []).names) h.first

pub makes_so : (t : Tables) (units : AllRows) (live : Known) (o : Order) (delegates : Delegates) (i : Instance) → IsPlanOf units live o t
    → MadeBy t o delegates i.objects.items i.shapes.items → i.planned.items ≡ t.objects.items → Makes units live o delegates i
makes_so t units live o delegates i h m same = record {
  written = same ∙ ap (λ (p : Plan). p.objects) h.plan;
  objects = m.objects ∙ objects_so t units live o delegates h;
  names = m.names ∙ names_so t units live o delegates h;
  numbered = subst (λ xs. AreNumbered o.first xs) (sym same) h.numbered;
  owned = subst (λ xs. AreOwned o.first o.owner xs) (sym same) h.owned;
}
