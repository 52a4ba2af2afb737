-- A table of what the cells come to.
use Rattle.std.specs.Prelude.{◌≡◌, ◌≢◌, ℕ, ◌-◌, ◌<◌, ◌⊎◌, Bool, true, false, List, [], ◌∷◌, Option, Some, None, if◌then◌else◌, slice_get, slice_set, length, count_by}
use Rattle.qml_base.specs.declared.numbers.ObjNo.{ObjNo}
use Rattle.qml_types.specs.declared.kind.TypeRef.{TypeRef}
use Rattle.qml_value.specs.declared.value.Value.{Value, Object as object_value, Component as component_value}
use Rattle.evaluation.specs.declared.came.Came.{Came}
use Rattle.evaluation.specs.declared.came.Came.TheVariants as came
use Rattle.tree_model.specs.declared.cells.Cell.{Cell}
use Rattle.tree_model.specs.declared.cells.Object.{Object}
use Rattle.tree_model.specs.declared.cells.Content.{Content}
use Rattle.tree_model.specs.declared.cells.Content.TheVariants.{Plain, Bound}
use Rattle.tree_model.specs.declared.cells.Binding.{Binding}
use Rattle.qml_base.specs.declared.numbers.ExprNo.{ExprNo}
use Rattle.qml_base.specs.declared.names.Home.{Home}
use Rattle.tree_model.specs.Systems.{Outcomes, step_of, if_there, Keeps}
use Rattle.evaluation.specs.Ask.{Ask, Names}
use Rattle.tree_model.specs.Rules.{World}
use Rattle.tree_model.specs.Settling.{Tree, steps, fresh, is_active, came_of, taking, held_by, spare_of, outcome_by}
use Rattle.tree_model.specs.Telling.{told_of}
use Rattle.tree_model.specs.declared.cells.Report.{Report}

abbrev pub Table : Type 0
Table = List (Option Came)

-- what a cell gives by itself: the value of its content, or what it holds
abbrev pub own_value : Content → Value → Value
own_value (Plain v) held = v
own_value (Bound binding) held = held

abbrev pub entry_came : Cell → Option Came → Came
entry_came cell None = came.Value (own_value cell.content cell.held)
entry_came cell (Some o) = o

abbrev pub there_came : Option Cell → Option (Option Came) → Came
there_came None entry = came.Loop
there_came (Some cell) None = came.Loop
there_came (Some cell) (Some entry) = entry_came cell entry

-- what a cell comes to by the table
abbrev pub read_in : List Cell → Table → Outcomes
read_in cells table i = there_came (slice_get cells i) (slice_get table i)

-- at depth 0 a plain cell has an entry where it holds another value than its content's, and an active binding loops
abbrev pub BegunPlain : Value → Value → Option Came → Type 0
BegunPlain v held None = v ≡ held
BegunPlain v held (Some o) = o ≡ came.Value v

abbrev pub BegunContent : List Object → Cell → Content → Option Came → Type 0
BegunContent objects cell (Plain v) entry = BegunPlain v cell.held entry
BegunContent objects cell (Bound binding) entry = entry ≡ (if is_active objects cell.no binding then Some came.Loop else None)

abbrev pub AllBegun : List Object → List Cell → Table → Type 0
AllBegun objects [] [] = Unit {0}
AllBegun objects [] (entry ∷ table) = ⊥
AllBegun objects (cell ∷ cells) [] = ⊥
AllBegun objects (cell ∷ cells) (entry ∷ table) = BegunContent objects cell cell.content entry × AllBegun objects cells table

-- a cell that has no entry holds what it gives by itself
abbrev pub Ready : List Cell → Table → Type 0
Ready cells table = (i : ℕ) (cell : Cell) → slice_get cells i ≡ Some cell → slice_get table i ≡ Some None → own_value cell.content cell.held ≡ cell.held

abbrev pub world_of : Names → (ObjNo → List TypeRef) → (ExprNo → Home → Ask) → World
world_of names types asks = record { names = names; types = types; asks = asks }

-- the types of the object that a value names
abbrev pub types_named : (ObjNo → List TypeRef) → Value → List TypeRef
types_named types (object_value o) = types o
types_named types (component_value o) = types o
types_named types _ = []

abbrev pub tree_of : List Object → List Cell → Tree
tree_of objects cells = record { objects = objects; cells = cells }

-- an active binding stands there
pub record IsRuled (objects : List Object) (cells : List Cell) (i : ℕ) : Type 0 where
  pub cell : Cell
  pub binding : Binding
  pub there : slice_get cells i ≡ Some cell
  pub bound : cell.content ≡ Bound binding
  pub active : is_active objects cell.no binding ≡ true

-- what the table says is so: it is what is fresh, and each cell comes to it by the table itself
pub record IsRight (world : World) (tree : Tree) (table : Table) : Type 0 where
  pub as_long : length table ≡ length tree.cells
  pub fits : (i : ℕ) → slice_get table i ≡ Some (Some came.Loop) → IsRuled tree.objects tree.cells i
  pub ready : Ready tree.cells table
  pub sound : Keeps (read_in tree.cells table) (fresh world tree)
  pub supported : (i : ℕ) → read_in tree.cells table i ≢ came.Loop → if_there (step_of (read_in tree.cells table)) (slice_get (steps world tree) i) ≡ read_in tree.cells table i

abbrev pub is_loop : Option Came → Bool
is_loop None = false
is_loop (Some came.Loop) = true
is_loop (Some (came.Value v)) = false
is_loop (Some (came.Threw why)) = false
is_loop (Some came.Past) = false

abbrev pub loops_in : Table → ℕ
loops_in table = count_by is_loop table

-- a cell that looped came to something, and the table says so now
pub record Visited (world : World) (cells : List Cell) (table : Table) (at : ℕ) (new : Table) : Type 0 where
  pub value : Came
  pub cell : Cell
  pub binding : Binding
  pub there : slice_get cells at ≡ Some cell
  pub bound : cell.content ≡ Bound binding
  pub looped : slice_get table at ≡ Some (Some came.Loop)
  pub is : value ≡ came_of world cells cell binding (read_in cells table)
  pub some : value ≢ came.Loop
  pub written : new ≡ slice_set table at (Some value)

-- where the table says that the cell loops, it does by the table
abbrev pub StillLoops : World → List Cell → Table → ℕ → Type 0
StillLoops world cells table at = (cell : Cell) (binding : Binding) → slice_get cells at ≡ Some cell → cell.content ≡ Bound binding → slice_get table at ≡ Some (Some came.Loop) → came_of world cells cell binding (read_in cells table) ≡ came.Loop

-- what a visit of a cell says: it came to something and the table says so now, or the table stays
abbrev pub Visits : World → List Cell → Table → ℕ → Bool → Table → Type 0
Visits world cells table at true new = Visited world cells table at new
Visits world cells table at false new = (new ≡ table) × StillLoops world cells table at

-- the place of the k-th visit among so many cells: from the first cell on, or from the last one back
abbrev pub turn_of : Bool → ℕ → ℕ → ℕ
turn_of true many k = k
turn_of false many k = many - 1 - k

-- what the first n visits say: some cell came to something, or all that were visited rest
abbrev pub Swept : World → List Cell → Table → Bool → ℕ → Bool → Table → Type 0
Swept world cells table up n true new = loops_in new < loops_in table
Swept world cells table up n false new = (new ≡ table) × ((k : ℕ) → k < n → StillLoops world cells table (turn_of up (length cells) k))

-- the cells as they take what the table says
abbrev pub taken : List Cell → Table → List Cell
taken [] table = []
taken (cell ∷ cells) [] = []
taken (cell ∷ cells) (entry ∷ table) = taking cell (entry_came cell entry) ∷ taken cells table

abbrev pub is_past : Option Came → Bool
is_past None = false
is_past (Some (came.Value v)) = false
is_past (Some (came.Threw why)) = false
is_past (Some came.Loop) = false
is_past (Some came.Past) = true

-- what is told of a cell that came to this
abbrev pub Tells : Cell → Came → Option Report → Type 0
Tells cell o None = (cell.outcome ≡ outcome_by o) ⊎ (told_of (outcome_by o) ≡ None)
Tells cell o (Some report) = (cell.outcome ≢ outcome_by o) × (told_of (outcome_by o) ≡ Some report.cause) × (report.cell ≡ cell.no)

-- the spares that the cells need once they take what the table says
abbrev pub spare_needed : Cell → Option Came → Option Value
spare_needed cell entry = spare_of cell.no cell.content (held_by (entry_came cell entry) cell.held)

abbrev pub spares_needed : List Cell → Table → List (Option Value)
spares_needed [] table = []
spares_needed (cell ∷ cells) [] = []
spares_needed (cell ∷ cells) (entry ∷ table) = spare_needed cell entry ∷ spares_needed cells table
