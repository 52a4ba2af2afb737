-- What the cells of the objects of a plan are given. Of several values for one cell that of the outer document counts.
use Rattle.std.specs.Prelude.{ℕ, zero, suc, Bool, true, false, not, ◌&&◌, ◌||◌, nat_eq, if◌then◌else◌, List, [], ◌∷◌, ◌++◌, length, codes, decimal, Option, Some, None}
use Rattle.std.specs.Option.{option_map, option_or, unwrap_or, is_none, option_and_then}
use Rattle.std.specs.List.{flat_map, filter_map, list_any}
use Rattle.qml_base.specs.declared.numbers.ObjNo.{ObjNo}
use Rattle.qml_base.specs.declared.numbers.UnitNo.{UnitNo}
use Rattle.qml_base.specs.declared.numbers.CellNo.{CellNo}
use Rattle.qml_base.specs.declared.numbers.ExprNo.{ExprNo}
use Rattle.qml_base.specs.declared.names.Home.{Home}
use Rattle.qml_syntax.specs.Tree.{Units}
use Rattle.qml_value.specs.declared.value.Value.{Value, Null, Text, Object as AnObject, Component as AComponent}
use Rattle.qml_types.specs.declared.kind.TypeNo.TheVariants as no
use Rattle.program_names.specs.Layers.{same_type}
use Rattle.name_table.specs.Named.{under}
use Rattle.qml_scope.specs.Shapes.{Known, same_cell, instance_at, is_component}
use Rattle.unit_rows.specs.declared.given.GivenValue.{GivenValue}
use Rattle.unit_rows.specs.declared.given.GivenValue.TheVariants.{Literal as a_literal, Body as a_body, Object as an_object, Objects as some_objects, Id as an_id}
use Rattle.unit_rows.specs.declared.given.ValueRow.{ValueRow}
use Rattle.instance_plans.specs.Numbers.{AllRows, PlannedInstance, Planned, Plan, row_at, component_at, number_in, number_of, builtin_at, value_at, object_no, cell_no, unit_no}

-- ---- contents

-- the text of a body, or a rule that is built in
pub data Rule : Type 0 where
  by_text : ExprNo → Home → Rule
  by_visible : Rule
  by_enabled : Rule
  by_count : Rule

-- a value, a list of these, or a binding with its author
pub data Content : Type 0 where
  plain : Value → Content
  list_of : List Value → Content
  bound : Rule → ObjNo → Content

-- a cell that is given something
pub record GivenCell : Type 0 where
  pub cell : CellNo
  pub content : Content

-- ---- ids around

abbrev pub value_of_live : Known → ObjNo → Value
value_of_live live o = if is_component live.told o then AComponent o else AnObject o

abbrev pub or_around : Option ObjNo → Known → Value → Value
or_around None live otherwise = otherwise
or_around (Some o) live otherwise = value_of_live live o

-- the object of an id in the instances around, with this many of them at most
abbrev pub id_around : ℕ → Known → UnitNo → Option ObjNo → Units → Value
id_around zero live u root name = Null
id_around (suc f) live u None name = Null
id_around (suc f) live u (Some r) name = elim (instance_at live.instances u r) [
  | None ↦ Null
  | Some s ↦ or_around (under s.ids name) live (id_around f live u s.enclosing name)
]

abbrev pub or_outside : Option ℕ → AllRows → List Planned → Value → Value
or_outside (Some n) units objects otherwise = value_at units objects n
or_outside None units objects otherwise = otherwise

abbrev pub object_of_id : AllRows → Known → List Planned → PlannedInstance → Units → Value
object_of_id units live objects s name =
    or_outside (option_and_then (number_in s.objects) (under (component_at units s.unit s.component).ids name)) units objects
    (id_around (suc (length live.instances)) live (unit_no s.unit) (option_map object_no s.enclosing) name)

-- ---- what is given

abbrev pub text_at : ℕ → ℕ → ℕ → ℕ → Rule
text_at u body scope author =
    by_text (record { unit = unit_no u; at = body }) (record { unit = unit_no u; scope = object_no scope; author = object_no author })

module _ (units : AllRows) (live : Known) (plan : Plan) where
  abbrev pub numbered_value : PlannedInstance → ℕ → Option Value
  numbered_value s o = option_map (value_at units plan.objects) (number_in s.objects o)

  -- what the object of a number gives by a row to the object of another
  abbrev pub content_of : PlannedInstance → ℕ → ℕ → GivenValue → Content
  content_of s from to (a_literal v) = plain v
  content_of s from to (a_body b) = bound (text_at s.unit b from to) (object_no to)
  content_of s from to (an_object o) = plain (unwrap_or (numbered_value s o) Null)
  content_of s from to (some_objects os) = list_of (filter_map (numbered_value s) os)
  content_of s from to (an_id name) = plain (object_of_id units live plan.objects s name)

  abbrev pub given_by : PlannedInstance → ℕ → ValueRow → List GivenCell
  given_by s from v = elim (number_of plan.instances s v.to) [
    | None ↦ []
    | Some n ↦ record { cell = cell_no n v.place; content = content_of s from n v.value } ∷ []
  ]

  -- whether an object of an instance has its row there: a Component that is made around an object has none of its own
  abbrev pub has_row : PlannedInstance → ℕ → Bool
  has_row s o = nat_eq o s.component || not (row_at units s.unit o).is_held

  abbrev pub given_by_object : PlannedInstance → ℕ × ℕ → List GivenCell
  given_by_object s at = if has_row s (at.0) then flat_map (given_by s (at.1)) (row_at units s.unit (at.0)).values else []

  -- what is given by a document comes before what the documents of its types give
  abbrev pub all_given : List GivenCell
  all_given = flat_map (λ (s : PlannedInstance). flat_map (given_by_object s) s.objects) plan.instances

-- the first counts
abbrev pub given_in : List GivenCell → CellNo → Option Content
given_in [] c = None
given_in (x ∷ rest) c = if same_cell x.cell c then Some x.content else given_in rest c

-- ---- States without a name

module _ (units : AllRows) (plan : Plan) (given : List GivenCell) where
  abbrev pub is_unnamed : Value → Bool
  is_unnamed (AnObject o) = same_type no.State (builtin_at units plan.objects o.0) && is_none (given_in given (cell_no o.0 1))
  is_unnamed _ = false

  abbrev pub name_cell_of : Value → CellNo
  name_cell_of (AnObject o) = cell_no o.0 1
  name_cell_of _ = cell_no 0 0

  -- `anonymousState` and the place, from 1, among the States of a list that have no name
  abbrev pub anonymous_from : ℕ → List Value → CellNo → Option Content
  anonymous_from n [] c = None
  anonymous_from n (v ∷ rest) c = elim (is_unnamed v) [
    | true ↦ if same_cell (name_cell_of v) c then Some (plain (Text (codes "anonymousState" ++ decimal n))) else anonymous_from (suc n) rest c
    | false ↦ anonymous_from n rest c
  ]

  abbrev pub values_listed : Content → List Value
  values_listed (list_of vs) = vs
  values_listed _ = []

  abbrev pub anonymous_in : List GivenCell → List CellNo → CellNo → Option Content
  anonymous_in [] seen c = None
  anonymous_in (x ∷ rest) seen c = elim (list_any (same_cell x.cell) seen) [
    | true ↦ anonymous_in rest seen c
    | false ↦ option_or (anonymous_from 1 (values_listed x.content) c) (anonymous_in rest (x.cell ∷ seen) c)
  ]

  -- among the lists that count
  abbrev pub anonymous : CellNo → Option Content
  anonymous c = anonymous_in given [] c
