-- What is made of an object as written, as the definitions have it.
use Rattle.std.specs.Prelude.{◌≡◌, ◌≤◌, ℕ, List, [], map, length, Result}
use Rattle.qml_base.specs.declared.numbers.CellNo.{CellNo}
use Rattle.qml_value.specs.declared.value.Value.{Value}
use Rattle.qml_scope.specs.declared.shape.Shape.{Shape}
use Rattle.qml_scope.specs.Shapes.{Known}
use Rattle.instance_plans.specs.declared.planned.Planned.{Planned}
use Rattle.instance_plans.specs.Numbers.{AllRows, Plan, planned_from}
use Rattle.instance_plans.specs.Contents.{all_given}
use Rattle.instance_plans.specs.Shaped.{shape_made}
use Rattle.instance_plans.specs.Plans as plans
use Rattle.instancing.specs.Numbered.{AreNumbered, AreOwned}
use Rattle.instance_contents.specs.declared.tables.Tables.{Tables}
use Rattle.instance_contents.specs.declared.objects.MadeObject.{MadeObject}
use Rattle.instance_contents.specs.Tables.{rows_in, live_in, plan_in}
use Rattle.instance_contents.specs.Making.{looks_of, object_of}
use Rattle.instance_contents.specs.Objects.{looks}
use Rattle.instance_shapes.specs.Shapes.{shapes_of_plan}
use Rattle.object_plans.specs.declared.planning.Order.{Order}
use Rattle.object_plans.specs.declared.planning.Instance.{Instance}

abbrev pub Delegates : Type 0
Delegates = List (List ℕ × Value)

abbrev pub delegate_values : Delegates → List Value
delegate_values delegates = map (λ (d : List ℕ × Value). d.1) delegates

abbrev pub plan_of_order : AllRows → Order → Plan
plan_of_order units o = planned_from units o.unit o.object o.enclosing o.owner o.first

abbrev pub objects_of_plan : AllRows → Order → List Planned
objects_of_plan units o = (plan_of_order units o).objects

-- what the definitions answer, and the instance where they answer one
abbrev pub planned_with : AllRows → Known → Order → Delegates → List (List ℕ × Value) → Result plans.Instance plans.PlanFault
planned_with units live o delegates fields = plans.plan_instance units live o.unit o.object o.enclosing o.first o.room o.owner delegates fields

abbrev pub instance_planned : AllRows → Known → Order → Delegates → List (CellNo × Value) → plans.Instance
instance_planned units live o delegates handed =
    plans.instance_made units live (plan_of_order units o) (all_given units live (plan_of_order units o)) o.unit o.object o.first delegates handed

-- what is made looks as the instance says, and is written as the plan says
pub record Makes (units : AllRows) (live : Known) (o : Order) (delegates : Delegates) (i : Instance) : Type 0 where
  pub written : i.planned.items ≡ objects_of_plan units o
  pub objects : map looks i.objects.items ≡ map looks_of (instance_planned units live o delegates []).objects
  pub names : i.shapes.items ≡ map shape_made (instance_planned units live o delegates []).names
  pub numbered : AreNumbered o.first i.planned.items
  pub owned : AreOwned o.first o.owner i.planned.items

-- ---- by the tables of the plan

pub record IsPlanOf (units : AllRows) (live : Known) (o : Order) (t : Tables) : Type 0 where
  pub rows : rows_in t ≡ units
  pub live_so : live_in t ≡ live
  pub plan : plan_in t ≡ plan_of_order units o
  pub first : t.first ≡ o.first
  pub within : length (objects_of_plan units o) ≤ o.room
  pub numbered : AreNumbered o.first t.objects.items
  pub owned : AreOwned o.first o.owner t.objects.items

pub record MadeBy (t : Tables) (o : Order) (delegates : Delegates) (made : List MadeObject) (shapes : List Shape) : Type 0 where
  pub objects : map looks made ≡ map (object_of t (delegate_values delegates)) t.objects.items
  pub names : shapes ≡ shapes_of_plan t o.unit o.object delegates
