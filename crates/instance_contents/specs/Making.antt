-- What is made of planned objects, as the machine takes it.
use Rattle.std.specs.Prelude.{ℕ, Bool, true, false, not, ◌&&◌, if◌then◌else◌, List, [], ◌∷◌, map, codes, Option, Some, None}
use Rattle.std.specs.Str.{bytes_eq}
use Rattle.std.specs.List.{flat_map}
use Rattle.std.specs.Option.{option_map, unwrap_or}
use Rattle.qml_syntax.specs.Tree.{Units}
use Rattle.qml_value.specs.declared.value.Value.{Value, Null, Undefined}
use Rattle.js_meaning.specs.Rows.{list_value}
use Rattle.qml_types.specs.Conversion.{default_of}
use Rattle.qml_types.specs.declared.kind.TypeNo.{TypeNo}
use Rattle.qml_types.specs.declared.kind.TypeNo.TheVariants as no
use Rattle.qml_types.specs.declared.kind.TypeRef.{TypeRef}
use Rattle.qml_types.specs.declared.kind.PropKind.{PropKind}
use Rattle.qml_types.specs.declared.kind.PropKind.TheVariants as kind
use Rattle.qml_types.specs.Table.{TypeCell}
use Rattle.tree_model.specs.declared.cells.NewCell.{NewCell}
use Rattle.tree_model.specs.declared.cells.Content.{Content as TreeContent}
use Rattle.tree_model.specs.declared.cells.Content.TheVariants.{Plain, Bound}
use Rattle.tree_model.specs.declared.cells.Rule.{Rule as TreeRule}
use Rattle.tree_model.specs.declared.cells.Rule.TheVariants as rule
use Rattle.program_names.specs.Layers.{same_type}
use Rattle.unit_rows.specs.declared.names.CellRow.{CellRow}
use Rattle.instance_plans.specs.declared.planned.Planned.{Planned}
use Rattle.instance_plans.specs.Numbers.{row_at, stands_on, object_no}
use Rattle.instance_plans.specs.Cells as made
use Rattle.instance_plans.specs.Treed.{content_made, value_made, cell_made}
use Rattle.instance_contents.specs.declared.tables.Tables.{Tables}
use Rattle.instance_contents.specs.Tables.{rows_in, live_in, plan_in}
use Rattle.instance_contents.specs.Sources.{given_all, content_in}

-- ---- cells of built-in types

abbrev pub owner_value : Tables → Option ℕ → Value
owner_value t owner = made.value_of_owner (rows_in t) (live_in t) (plan_in t) (given_all t) owner

-- what a cell holds before its content first gives a value, and what it contains where nothing is given
abbrev pub held_at_first : Tables → Option ℕ → TypeCell → Value
held_at_first t owner cell = value_made (made.held_first (rows_in t) (live_in t) (plan_in t) (given_all t) owner cell)

abbrev pub content_otherwise : Tables → TypeNo → Planned → TypeCell → TreeContent
content_otherwise t b x cell = content_made (made.base_content (rows_in t) (live_in t) (plan_in t) (given_all t) b x cell)

abbrev pub cell_of_type : Tables → TypeNo → Planned → TypeCell → NewCell
cell_of_type t b x cell = cell_made (made.table_cell (rows_in t) (live_in t) (plan_in t) (given_all t) b x cell)

abbrev pub typed_if : Tables → TypeNo → Planned → Option TypeCell → List NewCell
typed_if t b x None = []
typed_if t b x (Some cell) = cell_of_type t b x cell ∷ []

abbrev pub parent_value : Tables → Planned → Value
parent_value t x = if not x.is_around && (row_at (rows_in t) x.unit x.object).is_child then owner_value t x.owner else Null

abbrev pub ruled : TreeRule → ℕ → TreeContent
ruled r n = Bound (record { rule = r; author = object_no n })

-- the contents that aren't what the cell holds at first
abbrev pub item_rule : Tables → Planned → Units → Option TreeContent
item_rule t x name =
    if bytes_eq name (codes "visible") then Some (ruled rule.Visible x.number)
    else (if bytes_eq name (codes "enabled") then Some (ruled rule.Enabled x.number)
    else (if bytes_eq name (codes "parent") then Some (Plain (parent_value t x)) else None))

abbrev pub own_rule : Tables → TypeNo → Planned → Units → Option TreeContent
own_rule t b x name =
    if bytes_eq name (codes "count") then Some (ruled rule.Count x.number)
    else (if stands_on b no.Item then item_rule t x name else None)

-- ---- declared cells

abbrev pub is_list_kind : PropKind → Bool
is_list_kind (kind.List t) = true
is_list_kind k = false

abbrev pub empty_value : PropKind → Value
empty_value (kind.List t) = list_value []
empty_value k = default_of k

abbrev pub declared_cell_of : Tables → ℕ → ℕ → PropKind → NewCell
declared_cell_of t n place k =
    record { kind = k; content = unwrap_or (option_map content_made (content_in t n place)) (Plain (empty_value k)); held = empty_value k }

abbrev pub declared_from : Tables → ℕ → ℕ → List CellRow → List NewCell
declared_from t n place rows = map cell_made (made.declared_cells (rows_in t) (live_in t) (plan_in t) (given_all t) n place rows)

abbrev pub rows_of_documents : Tables → List ℕ → List CellRow
rows_of_documents t documents = flat_map (λ u. (row_at (rows_in t) u 0).cells) documents

abbrev pub delegate_cell : Value → NewCell
delegate_cell v = record { kind = kind.Var; content = Plain v; held = Undefined }

abbrev pub list_cell : NewCell
list_cell = record { kind = kind.Var; content = Plain (list_value []); held = list_value [] }

abbrev pub cells_of_list : TypeNo → List NewCell
cells_of_list b = if same_type no.Repeater b then list_cell ∷ [] else []

-- ---- objects

abbrev pub cells_of_object : Tables → Planned → List Value → List NewCell
cells_of_object t x delegates = map cell_made (made.cells_made (rows_in t) (live_in t) (plan_in t) (given_all t) x delegates)

-- an object that is made, but for what the machine asks of its rows
pub record Looks : Type 0 where
  pub owner : Option ℕ
  pub shown : Units
  pub types : List TypeRef
  pub cells : List NewCell
  pub starts : Bool

abbrev pub looks_of : made.MadeObject → Looks
looks_of x = record { owner = x.owner; shown = x.shown; types = x.types; cells = map cell_made x.cells; starts = x.starts }

abbrev pub object_of : Tables → List Value → Planned → Looks
object_of t delegates x = looks_of (made.made_object (rows_in t) (live_in t) (plan_in t) (given_all t) t.first delegates x)
