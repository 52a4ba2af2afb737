-- Which objects are made of an object as written, in document order, and by which numbers. What the documents of an object's
-- types write in it comes before what is written in it at its place of use.
use Rattle.std.specs.Prelude.{ℕ, zero, suc, Bool, true, false, not, ◌&&◌, nat_eq, if◌then◌else◌, List, [], ◌∷◌, ◌++◌, map, length, reverse, slice_get, Option, Some, None}
use Rattle.std.specs.Option.{option_map, unwrap_or, option_and_then}
use Rattle.std.specs.List.{filter, find, list_any}
use Rattle.qml_base.specs.declared.numbers.ObjNo.{ObjNo}
use Rattle.qml_base.specs.declared.numbers.UnitNo.{UnitNo}
use Rattle.qml_base.specs.declared.numbers.CellNo.{CellNo}
use Rattle.qml_value.specs.declared.value.Value.{Value, Object as AnObject, Component as AComponent}
use Rattle.qml_types.specs.Table.{lineage}
use Rattle.qml_types.specs.declared.kind.TypeNo.{TypeNo}
use Rattle.qml_types.specs.declared.kind.TypeNo.TheVariants as no
use Rattle.qml_types.specs.declared.kind.TypeRef.{TypeRef}
use Rattle.qml_types.specs.declared.kind.TypeRef.TheVariants.{Builtin, Document as OfDocument}
use Rattle.program_names.specs.Layers.{same_type}
use Rattle.program_names.specs.PathMeanings.{Way}
use Rattle.unit_rows.specs.declared.unit.ObjectRow.{ObjectRow}
use Rattle.unit_rows.specs.declared.unit.ComponentRow.{ComponentRow}
use Rattle.unit_rows.specs.Rows.{UnitRows}
pub use Rattle.instance_plans.specs.declared.planned.Planned.{Planned}
pub use Rattle.instance_plans.specs.declared.planned.PlannedInstance.{PlannedInstance}

-- the rows of all documents and scripts
abbrev pub AllRows : Type 0
AllRows = List UnitRows

abbrev pub no_rows : UnitRows
no_rows = record { objects = []; components = []; bodies = []; bindings = []; scripts = []; functions = [] }

abbrev pub rows_at : AllRows → ℕ → UnitRows
rows_at units u = unwrap_or (slice_get units u) no_rows

abbrev pub no_object : ObjectRow
no_object = record {
  shown = [];
  of_type = Builtin no.QtObject;
  owner = None;
  is_child = false;
  is_held = false;
  holds = None;
  cells = [];
  values = [];
  changes = [];
  handlers = [];
  names = [];
  elements = [];
}

abbrev pub row_at : AllRows → ℕ → ℕ → ObjectRow
row_at units u o = unwrap_or (slice_get (rows_at units u).objects o) no_object

abbrev pub no_component : ComponentRow
no_component = record { root = 0; enclosing = None; standing = []; ids = [] }

-- the component of a document that has this root
abbrev pub component_at : AllRows → ℕ → ℕ → ComponentRow
component_at units u r = unwrap_or (find (λ (c : ComponentRow). nat_eq c.root r) (rows_at units u).components) no_component

-- ---- types

abbrev pub documents_within : ℕ → AllRows → TypeRef → List ℕ
documents_within zero units t = []
documents_within (suc n) units (Builtin t) = []
documents_within (suc n) units (OfDocument u) = documents_within n units (row_at units u.0 0).of_type ++ u.0 ∷ []

-- the documents that a type stands on, the lowest first; no document stands on itself, so this is deep enough
abbrev pub documents_of : AllRows → TypeRef → List ℕ
documents_of units t = documents_within (suc (length units)) units t

abbrev pub builtin_within : ℕ → AllRows → TypeRef → TypeNo
builtin_within zero units t = no.QtObject
builtin_within (suc n) units (Builtin t) = t
builtin_within (suc n) units (OfDocument u) = builtin_within n units (row_at units u.0 0).of_type

abbrev pub builtin_of : AllRows → TypeRef → TypeNo
builtin_of units t = builtin_within (suc (length units)) units t

abbrev pub document_ref : ℕ → TypeRef
document_ref u = OfDocument (record { 0 = u })

-- the types of an object, from its own to the lowest
abbrev pub types_of : AllRows → TypeRef → List TypeRef
types_of units t = reverse (map Builtin (lineage (builtin_of units t)) ++ map document_ref (documents_of units t))

abbrev pub stands_on : TypeNo → TypeNo → Bool
stands_on t base = list_any (same_type base) (lineage t)

-- ---- the objects in document order

-- the instances of types stand behind the one whose object is of that type
pub record Plan : Type 0 where
  pub next : ℕ
  pub objects : List Planned
  pub instances : List PlannedInstance

abbrev pub number_in : List (ℕ × ℕ) → ℕ → Option ℕ
number_in [] o = None
number_in (at ∷ rest) o = if nat_eq at.0 o then Some at.1 else number_in rest o

-- a plan under way, with the numbers that an instance has given so far
pub record Going : Type 0 where
  pub numbers : List (ℕ × ℕ)
  pub plan : Plan

-- what the documents of a type add for the object of a number
abbrev pub Inner : Type 0
Inner = TypeRef → ℕ → Plan → Plan

abbrev pub with_planned : Planned → Plan → Plan
with_planned x plan = record { next = suc plan.next; objects = plan.objects ++ x ∷ []; instances = plan.instances }

abbrev pub inside : Inner → Bool → TypeRef → ℕ → Plan → Plan
inside inner true t n plan = plan
inside inner false t n plan = inner t n plan

-- an object takes the next number; a Component that is made around one stands for it
abbrev pub placed : Inner → AllRows → ℕ → ℕ → Going → ℕ → Going
placed inner units u r g o =
    let row = row_at units u o in
    let n = g.plan.next in
    let is_around = row.is_held && not (nat_eq o r) in
    let x : Planned = record { number = n; unit = u; object = o; is_around = is_around; owner = option_and_then (number_in g.numbers) row.owner } in
    record { numbers = g.numbers ++ (o, n) ∷ []; plan = inside inner is_around row.of_type n (with_planned x g.plan) }

abbrev pub each_placed : Inner → AllRows → ℕ → ℕ → Going → List ℕ → Going
each_placed inner units u r g [] = g
each_placed inner units u r g (o ∷ rest) = each_placed inner units u r (placed inner units u r g o) rest

abbrev pub finished : ℕ → ℕ → ℕ → Option ℕ → Going → Plan
finished u r n enclosing g = record {
  next = g.plan.next;
  objects = g.plan.objects;
  instances = record { unit = u; component = r; root = n; enclosing = enclosing; objects = g.numbers } ∷ g.plan.instances;
}

-- an instance whose root has its number already
abbrev pub stands : Inner → AllRows → ℕ → ℕ → ℕ → Option ℕ → Plan → Plan
stands inner units u r n enclosing plan =
    finished u r n enclosing
    (each_placed inner units u r (record { numbers = (r, n) ∷ []; plan = inner (row_at units u r).of_type n plan })
    (filter (λ o. not (nat_eq o r)) (component_at units u r).standing))

abbrev pub inner_within : ℕ → AllRows → TypeRef → ℕ → Plan → Plan
inner_within zero units t n plan = plan
inner_within (suc f) units (Builtin t) n plan = plan
inner_within (suc f) units (OfDocument u) n plan = stands (λ t n plan. inner_within f units t n plan) units u.0 0 n None plan

abbrev pub inner : AllRows → TypeRef → ℕ → Plan → Plan
inner units t n plan = inner_within (suc (length units)) units t n plan

-- what is made of the object `r` of a document from a number on
abbrev pub planned_from : AllRows → ℕ → ℕ → Option ℕ → Option ℕ → ℕ → Plan
planned_from units u r enclosing owner first =
    stands (inner units) units u r first enclosing
    (record { next = suc first; objects = record { number = first; unit = u; object = r; is_around = false; owner = owner } ∷ []; instances = [] })

-- ---- numbers of what the rows name

abbrev pub is_instance : ℕ → ℕ → PlannedInstance → Bool
is_instance u n s = nat_eq s.unit u && nat_eq s.root n

abbrev pub planned_instance : List PlannedInstance → ℕ → ℕ → Option PlannedInstance
planned_instance instances u n = find (is_instance u n) instances

abbrev pub behind_hop : List PlannedInstance → ℕ → ℕ × ℕ → Option ℕ
behind_hop instances n hop =
    option_and_then (λ (s : PlannedInstance). number_in s.objects (hop.1)) (planned_instance instances (hop.0) n)

abbrev pub through : List PlannedInstance → ℕ → List (ℕ × ℕ) → Option ℕ
through instances n [] = Some n
through instances n (hop ∷ rest) = option_and_then (λ m. through instances m rest) (behind_hop instances n hop)

-- the number of the object at the end of a way
abbrev pub number_of : List PlannedInstance → PlannedInstance → Way → Option ℕ
number_of instances s w = option_and_then (λ n. through instances n w.hops) (number_in s.objects w.base)

abbrev pub planned_at : List Planned → ℕ → Option Planned
planned_at objects n = find (λ (x : Planned). nat_eq x.number n) objects

abbrev pub builtin_planned : AllRows → Planned → TypeNo
builtin_planned units x = if x.is_around then no.Component else builtin_of units (row_at units x.unit x.object).of_type

abbrev pub builtin_at : AllRows → List Planned → ℕ → TypeNo
builtin_at units objects n = unwrap_or (option_map (builtin_planned units) (planned_at objects n)) no.QtObject

abbrev pub object_no : ℕ → ObjNo
object_no n = record { 0 = n }

abbrev pub cell_no : ℕ → ℕ → CellNo
cell_no n place = record { object = object_no n; place = place }

abbrev pub unit_no : ℕ → UnitNo
unit_no u = record { 0 = u }

abbrev pub is_component_at : AllRows → List Planned → ℕ → Bool
is_component_at units objects n = same_type no.Component (builtin_at units objects n)

abbrev pub value_at : AllRows → List Planned → ℕ → Value
value_at units objects n = if is_component_at units objects n then AComponent (object_no n) else AnObject (object_no n)
