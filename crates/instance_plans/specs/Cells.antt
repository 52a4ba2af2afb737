-- The objects of a plan with their cells and handlers.
use Rattle.std.specs.Prelude.{ℕ, suc, Bool, true, false, not, ◌&&◌, ◌||◌, nat_eq, if◌then◌else◌, List, [], ◌∷◌, ◌++◌, map, length, codes, is_some, Option, Some, None}
use Rattle.std.specs.Str.{bytes_eq}
use Rattle.std.specs.Option.{option_map, option_or, unwrap_or}
use Rattle.std.specs.List.{flat_map, list_any}
use Rattle.qml_base.specs.declared.numbers.ExprNo.{ExprNo}
use Rattle.qml_syntax.specs.Tree.{Units}
use Rattle.qml_value.specs.declared.value.Value.{Value, Undefined, Null}
use Rattle.qml_types.specs.Conversion.{default_of}
use Rattle.qml_types.specs.First.{first_value}
use Rattle.qml_types.specs.Table.{TypeCell, cells_of}
use Rattle.qml_types.specs.declared.kind.TypeNo.{TypeNo}
use Rattle.qml_types.specs.declared.kind.TypeNo.TheVariants as no
use Rattle.qml_types.specs.declared.kind.TypeRef.{TypeRef}
use Rattle.qml_types.specs.declared.kind.TypeRef.TheVariants.{Builtin}
use Rattle.qml_types.specs.declared.kind.PropKind.{PropKind}
use Rattle.qml_types.specs.declared.kind.PropKind.TheVariants as kind
use Rattle.program_names.specs.Layers.{same_type}
use Rattle.unit_rows.specs.declared.names.SignalRef.{SignalRef}
use Rattle.unit_rows.specs.declared.names.HandlerRow.{HandlerRow}
use Rattle.unit_rows.specs.declared.names.CellRow.{CellRow}
use Rattle.qml_scope.specs.Shapes.{Known}
use Rattle.instance_plans.specs.Numbers.{AllRows, Planned, Plan, row_at, documents_of, types_of, stands_on, planned_at, builtin_planned, value_at, object_no, cell_no, unit_no}
use Rattle.instance_plans.specs.Contents.{by_visible, by_enabled, by_count, Content, plain, list_of, bound, GivenCell, given_in, anonymous, value_of_live}

-- a cell with its kind, its content, and what it holds until its content first gives a value
pub record MadeCell : Type 0 where
  pub kind : PropKind
  pub content : Content
  pub first : Content

-- An object that is made. `at` is the object as written, of a Component what it holds; `is_filled` tells of a Component that
-- it holds something.
pub record MadeObject : Type 0 where
  pub at : ℕ × ℕ
  pub is_filled : Bool
  pub owner : Option ℕ
  pub shown : Units
  pub types : List TypeRef
  pub cells : List MadeCell
  pub handlers : List (SignalRef × ExprNo)
  pub elements : List (List (Units × Value))
  pub starts : Bool

abbrev pub last_some : {A : Type 0} → List (Option A) → Option A
last_some [] = None
last_some (x ∷ rest) = option_or (last_some rest) x

module _ (units : AllRows) (live : Known) (plan : Plan) (given : List GivenCell) where
  abbrev pub value_of_number : ℕ → Option Planned → Value
  value_of_number n (Some x) = value_at units plan.objects n
  value_of_number n None = value_of_live live (object_no n)

  abbrev pub value_of_owner : Option ℕ → Value
  value_of_owner None = Null
  value_of_owner (Some n) = value_of_number n (planned_at plan.objects n)

  abbrev pub of_kind : PropKind → Content
  of_kind (kind.List t) = list_of []
  of_kind k = plain (default_of k)

  abbrev pub list_or : PropKind → Value → Content
  list_or (kind.List t) v = list_of []
  list_or k v = plain v

  -- what a cell of the table holds until its content gives a value
  abbrev pub held_first : Option ℕ → TypeCell → Content
  held_first owner cell = list_or cell.kind (first_value cell (value_of_owner owner))

  -- ---- cells

  abbrev pub parent_of : Planned → Content
  parent_of x = plain (if not x.is_around && (row_at units x.unit x.object).is_child then value_of_owner x.owner else Null)

  abbrev pub is_named : TypeCell → Units → Bool
  is_named cell name = bytes_eq cell.name name

  -- what a cell of the table contains where nothing is given for it: `visible`, `enabled` and `count` have rules of their own
  abbrev pub base_content : TypeNo → Planned → TypeCell → Content
  base_content t x cell =
      if is_named cell (codes "count") then bound by_count (object_no x.number)
      else (if stands_on t no.Item && is_named cell (codes "visible") then bound by_visible (object_no x.number)
      else (if stands_on t no.Item && is_named cell (codes "enabled") then bound by_enabled (object_no x.number)
      else (if stands_on t no.Item && is_named cell (codes "parent") then parent_of x
      else held_first x.owner cell)))

  abbrev pub content_at : ℕ → ℕ → Content → Content
  content_at n place otherwise =
      unwrap_or (option_or (given_in given (cell_no n place)) (anonymous units plan given (cell_no n place))) otherwise

  abbrev pub table_cell : TypeNo → Planned → TypeCell → MadeCell
  table_cell t x cell =
      record { kind = cell.kind; content = content_at x.number cell.place (base_content t x cell); first = held_first x.owner cell }

  abbrev pub declared_cells : ℕ → ℕ → List CellRow → List MadeCell
  declared_cells n place [] = []
  declared_cells n place (r ∷ rest) =
      record { kind = r.kind; content = content_at n place (of_kind r.kind); first = of_kind r.kind } ∷ declared_cells n (suc place) rest

  abbrev pub delegate_cell : Value → MadeCell
  delegate_cell v = record { kind = kind.Var; content = plain v; first = plain Undefined }

  -- a Repeater's list of delegates is its last cell
  abbrev pub list_cell : TypeNo → List MadeCell
  list_cell no.Repeater = record { kind = kind.Var; content = list_of []; first = list_of [] } ∷ []
  list_cell _ = []

  abbrev pub rows_declared : Planned → List CellRow
  rows_declared x =
      let r = row_at units x.unit x.object in
      if x.is_around then [] else flat_map (λ u. (row_at units u 0).cells) (documents_of units r.of_type) ++ r.cells

  abbrev pub cells_made : Planned → List Value → List MadeCell
  cells_made x delegates =
      let t = builtin_planned units x in
      map (table_cell t x) (cells_of t) ++ declared_cells x.number (length (cells_of t)) (rows_declared x) ++ map delegate_cell delegates ++ list_cell t

  -- ---- handlers, in the order of layers

  abbrev pub handler_by : ℕ → HandlerRow → SignalRef × ExprNo
  handler_by u h = (h.signal, record { unit = unit_no u; at = h.body })

  abbrev pub handlers_made : Planned → List (SignalRef × ExprNo)
  handlers_made x =
      let r = row_at units x.unit x.object in
      if x.is_around then []
      else flat_map (λ u. map (handler_by u) (row_at units u 0).handlers) (documents_of units r.of_type) ++ map (handler_by x.unit) r.handlers

  -- ---- what a Component holds, and whether an object has a start

  abbrev pub held_in : ℕ → ℕ → Option (ℕ × ℕ)
  held_in u o = option_map (λ i. (u, i)) (row_at units u o).holds

  abbrev pub held_by : Planned → Option (ℕ × ℕ)
  held_by x =
      let r = row_at units x.unit x.object in
      if x.is_around then Some (x.unit, x.object)
      else last_some (map (λ u. held_in u 0) (documents_of units r.of_type) ++ held_in x.unit x.object ∷ [])

  abbrev pub is_some_list : Content → Bool
  is_some_list (list_of (v ∷ vs)) = true
  is_some_list _ = false

  -- the place of `states` in an Item
  abbrev pub states_place : ℕ
  states_place = 11

  abbrev pub has_states : Planned → Bool
  has_states x = stands_on (builtin_planned units x) no.Item && is_some_list (content_at x.number states_place (list_of []))

  abbrev pub always_starts : TypeNo → Bool
  always_starts t = list_any (same_type t) (no.Binding ∷ no.Connections ∷ no.Timer ∷ no.Repeater ∷ no.Loader ∷ no.Host ∷ [])

  abbrev pub elements_made : Planned → List (List (List ℕ × Value))
  elements_made x =
      let r = row_at units x.unit x.object in
      if x.is_around then [] else flat_map (λ u. (row_at units u 0).elements) (documents_of units r.of_type) ++ r.elements

  abbrev pub made_object : ℕ → List Value → Planned → MadeObject
  made_object first delegates x =
      let r = row_at units x.unit x.object in
      record {
        at = unwrap_or (held_by x) (x.unit, x.object);
        is_filled = is_some (held_by x);
        owner = x.owner;
        shown = if x.is_around then codes "Component" else r.shown;
        types = if x.is_around then Builtin no.Component ∷ Builtin no.QtObject ∷ [] else types_of units r.of_type;
        cells = cells_made x (if nat_eq x.number first then delegates else []);
        handlers = handlers_made x;
        elements = elements_made x;
        starts = always_starts (builtin_planned units x) || has_states x;
      }
