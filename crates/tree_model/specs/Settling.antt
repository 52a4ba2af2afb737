-- Settling a tree: each active binding is evaluated afresh, and all cells take what came at once.
use Rattle.std.specs.Prelude.{◌≡◌, ◌≢◌, ℕ, suc, ◌<◌, Bool, true, false, ◌&&◌, nat_eq, not, List, [], ◌∷◌, Some, None, Option, if◌then◌else◌, slice_get, length, map, count_by}
use Rattle.qml_base.specs.declared.numbers.ObjNo.{ObjNo}
use Rattle.qml_value.specs.declared.value.Value.{Value, Undefined}
use Rattle.evaluation.specs.declared.came.Came.{Came}
use Rattle.evaluation.specs.declared.came.Came.TheVariants as came
use Rattle.qml_base.specs.declared.numbers.CellNo.{CellNo}
use Rattle.tree_model.specs.declared.cells.Cell.{Cell}
use Rattle.tree_model.specs.declared.cells.Object.{Object}
use Rattle.tree_model.specs.declared.cells.Binding.{Binding}
use Rattle.tree_model.specs.declared.cells.Content.{Content}
use Rattle.tree_model.specs.declared.cells.Content.TheVariants.{Plain, Bound}
use Rattle.tree_model.specs.declared.cells.Outcome.{Outcome}
use Rattle.tree_model.specs.declared.cells.Outcome.TheVariants as outcome
use Rattle.tree_model.specs.Systems.{Outcomes, Step, given, ruled, pull}
use Rattle.evaluation.specs.Evaluating.{Seen, is, looped, past, Reading}
use Rattle.tree_model.specs.Rules.{World, evaluation, converted}

-- objects in the order of their numbers, and their cells in the order of objects and places
pub record Tree : Type 0 where
  pub objects : List Object
  pub cells : List Cell

abbrev pub same_cell : CellNo → CellNo → Bool
same_cell c d = nat_eq c.object.0 d.object.0 && nat_eq c.place d.place

-- where a cell stands in the list of all; their number where it isn't there
abbrev pub place_of : List Cell → CellNo → ℕ
place_of [] c = 0
place_of (cell ∷ cells) c = if same_cell cell.no c then 0 else suc (place_of cells c)

-- what the cell at a place holds
abbrev pub held_in : Option Cell → Value
held_in None = Undefined
held_in (Some cell) = cell.held

abbrev pub held_at : List Cell → ℕ → Value
held_at cells i = held_in (slice_get cells i)

-- an object that is there and isn't condemned
abbrev pub stands : List Object → ObjNo → Bool
stands [] o = false
stands (object ∷ objects) o = if nat_eq object.number.0 o.0 then not object.condemned else stands objects o

abbrev pub is_active : List Object → CellNo → Binding → Bool
is_active objects c binding = stands objects c.object && stands objects binding.author

abbrev pub is_bound_content : Content → Bool
is_bound_content (Plain v) = false
is_bound_content (Bound binding) = true

abbrev pub is_bound : Cell → Bool
is_bound cell = is_bound_content cell.content

-- a cell that threw is read as what it holds
abbrev pub seen_of : Value → Came → Seen
seen_of held (came.Value v) = is v
seen_of held (came.Threw why) = is held
seen_of held came.Loop = looped
seen_of held came.Past = past

-- reading by what each cell comes to
abbrev pub reading : List Cell → Outcomes → Reading
reading cells read c = seen_of (held_at cells (place_of cells c)) (read (place_of cells c))

-- what the active binding of a cell comes to
abbrev pub came_of : World → List Cell → Cell → Binding → Outcomes → Came
came_of world cells cell binding read = converted world.types cell.kind (evaluation world cell.no.object binding.rule (reading cells read)).came

-- a plain cell gives its value, one that isn't active what it holds, and an active one what its binding comes to
abbrev pub content_step : World → Tree → Cell → Content → Step
content_step world tree cell (Plain v) = given v
content_step world tree cell (Bound binding) = if is_active tree.objects cell.no binding then ruled (came_of world tree.cells cell binding) else given cell.held

abbrev pub step : World → Tree → Cell → Step
step world tree cell = content_step world tree cell cell.content

abbrev pub steps : World → Tree → List Step
steps world tree = map (step world tree) tree.cells

-- what each cell comes to, evaluated one level deeper than there are bound cells
unfoldable pub fresh : World → Tree → Outcomes
fresh world tree i = pull (steps world tree) (suc (count_by is_bound tree.cells)) i

-- a value is held; what threw or looped keeps what it held
abbrev pub held_by : Came → Value → Value
held_by (came.Value v) held = v
held_by (came.Threw why) held = held
held_by came.Loop held = held
held_by came.Past held = held

abbrev pub outcome_by : Came → Outcome
outcome_by (came.Value v) = outcome.Value
outcome_by (came.Threw why) = outcome.Threw why
outcome_by came.Loop = outcome.Loop
outcome_by came.Past = outcome.Past

-- a second copy of what is held, where a text of another object binds the cell
abbrev pub spare_of : CellNo → Content → Value → Option Value
spare_of c (Plain v) held = None
spare_of c (Bound binding) held = if nat_eq binding.author.0 c.object.0 then None else Some held

abbrev pub IsSpared : Cell → Type 0
IsSpared cell = cell.spare ≡ spare_of cell.no cell.content cell.held

abbrev pub AllSpared : List Cell → Type 0
AllSpared [] = Unit {0}
AllSpared (cell ∷ cells) = IsSpared cell × AllSpared cells

abbrev pub taking : Cell → Came → Cell
taking cell came = record { no = cell.no; kind = cell.kind; content = cell.content; held = held_by came cell.held; spare = spare_of cell.no cell.content (held_by came cell.held); outcome = outcome_by came; noted = false }

-- the cells from place i on, each as it takes what came
abbrev pub taking_all : Outcomes → ℕ → List Cell → List Cell
taking_all read i [] = []
taking_all read i (cell ∷ cells) = taking cell (read i) ∷ taking_all read (suc i) cells

-- the lowest cell past the limit
pub record IsLowestPast (read : Outcomes) (cells : List Cell) (c : CellNo) : Type 0 where
  pub place : ℕ
  pub cell : Cell
  pub there : slice_get cells place ≡ Some cell
  pub named : cell.no ≡ c
  pub is_past : read place ≡ came.Past
  pub lowest : (j : ℕ) → j < place → read j ≢ came.Past

abbrev pub NonePast : Outcomes → List Cell → Type 0
NonePast read cells = (i : ℕ) → i < length cells → read i ≢ came.Past

-- the cells as they have settled
abbrev pub settled : World → Tree → List Cell
settled world tree = taking_all (fresh world tree) 0 tree.cells

abbrev pub with_cells : Tree → List Cell → Tree
with_cells tree cells = record { objects = tree.objects; cells = cells }

-- a cell shows what it came to
abbrev pub Shows : Came → Cell → Type 0
Shows (came.Value v) cell = (cell.held ≡ v) × (cell.outcome ≡ outcome.Value)
Shows (came.Threw why) cell = cell.outcome ≡ outcome.Threw why
Shows came.Loop cell = cell.outcome ≡ outcome.Loop
Shows came.Past cell = ⊥

abbrev pub Fresh : World → Tree → Type 0
Fresh world tree = (i : ℕ) (cell : Cell) → slice_get tree.cells i ≡ Some cell → Shows (fresh world tree i) cell
