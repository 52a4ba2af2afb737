-- What contracts see of a live tree, and what its calls answer.
use Rattle.std.specs.Prelude.{◌≡◌, ◌≢◌, ℕ, ◌+◌, ◌<◌, ◌++◌, List, [], ◌∷◌, length, map, Some, Option, Result, Ok, Err, Bool, false, if◌then◌else◌, slice_get, slice_set}
use Rattle.qml_base.specs.declared.numbers.ObjNo.{ObjNo}
use Rattle.qml_base.specs.declared.numbers.CellNo.{CellNo}
use Rattle.qml_value.specs.declared.value.Value.{Value}
use Rattle.qml_value.specs.Kinds.{kind_of}
use Rattle.qml_types.specs.declared.kind.TypeRef.{TypeRef}
use Rattle.qml_base.specs.declared.numbers.ExprNo.{ExprNo}
use Rattle.qml_base.specs.declared.names.Home.{Home}
use Rattle.evaluation.specs.Ask.{Ask}
use Rattle.evaluation.specs.declared.came.Came.TheVariants as came
use Rattle.qml_scope.specs.Shapes.{Known, TellsOf, names_of, types_among}
use Rattle.tree_model.specs.declared.cells.Cell.{Cell}
use Rattle.tree_model.specs.declared.cells.NewCell.{NewCell}
use Rattle.tree_model.specs.declared.cells.Object.{Object}
use Rattle.tree_model.specs.declared.cells.Content.{Content}
use Rattle.tree_model.specs.declared.cells.Content.TheVariants.{Plain}
use Rattle.tree_model.specs.Converting.{convert_of}
use Rattle.tree_model.specs.Rules.{World}
use Rattle.tree_model.specs.Settling.{Tree, place_of}
use Rattle.tree_model.specs.Removing.{quiet}
use Rattle.object_tree.specs.Trees.{IsFull}
use Rattle.object_tree.specs.declared.tree.AddFault.{AddFault}
use Rattle.object_tree.specs.declared.tree.AddFault.TheVariants as fault
use Rattle.property_store.specs.Stores.{with_content, new_cells}
use Rattle.live_tree.specs.declared.tree.WriteFault.{WriteFault}
use Rattle.live_tree.specs.declared.tree.WriteFault.TheVariants as refused

-- the tree, how many numbers were given to objects, and what is known of names and types
pub record Live : Type 0 where
  pub tree : Tree
  pub given : ℕ
  pub known : Known

-- the cells, where those of bindings that aren't active any more may still have the outcomes that they had
abbrev pub shown : Bool → List Object → List Cell → List Cell
shown stale objects cells = if stale then map (quiet objects) cells else cells

-- the numbers of the cells, each with what the cell holds
abbrev pub held_in : List Cell → List (CellNo × Value)
held_in cells = map (λ cell. (cell.no, cell.held)) cells

-- what texts ask for stands in the world of the tree's own names and types
abbrev pub world_around : Live → (ExprNo → Home → Ask) → World
world_around live asks = record { names = names_of live.known; types = types_among live.known.told; asks = asks }

-- what the tree keeps of its last settling agrees with what texts ask; a tree that evaluates all bindings at each settling
-- keeps nothing
unfoldable pub Knows : (ExprNo → Home → Ask) → Live → Type 0
Knows asks live = Unit {0}

-- the cell is there
abbrev pub HasCell : Tree → CellNo → Type 0
HasCell tree c = place_of tree.cells c < length tree.cells

-- the cell has another content, and nothing else is changed
abbrev pub Replaces : Tree → CellNo → Content → Tree → Type 0
Replaces old c content new =
    (new.objects ≡ old.objects)
    × ((cell : Cell) → slice_get old.cells (place_of old.cells c) ≡ Some cell → new.cells ≡ slice_set old.cells (place_of old.cells c) (with_content cell content))

-- no object may be added
abbrev pub IsFullTree : Live → Type 0
IsFullTree live = IsFull live.tree.objects live.given

-- what an addition answers: the object and its cells stand behind the others, its types are told, and nothing else is changed;
-- or nothing is
abbrev pub Adds : Option ObjNo → Option ObjNo → List TypeRef → List NewCell → Live → Result ObjNo AddFault → Live → Type 0
Adds owner origin types news old (Ok o) new =
    (o.0 ≡ old.given + 1) × (new.given ≡ old.given + 1) × (¬ (IsFullTree old))
    × (new.tree.objects ≡ old.tree.objects ++ record { number = o; owner = owner; origin = origin; condemned = false } ∷ [])
    × (new.tree.cells ≡ old.tree.cells ++ new_cells o 0 news)
    × TellsOf o types old.known new.known
Adds owner origin types news old (Err (fault.Full live)) new = (new ≡ old) × (live ≡ length old.tree.objects) × IsFullTree old
Adds owner origin types news old (Err fault.NoMemory) new = (new ≡ old) × (¬ (IsFullTree old))

-- what a write answers: the content is the value as the cell's kind takes it; or the kind takes no such value
abbrev pub Writes : (ObjNo → List TypeRef) → CellNo → Value → Tree → Result (Unit {0}) WriteFault → Tree → Type 0
Writes types c v old (Ok done) new = (cell : Cell) → slice_get old.cells (place_of old.cells c) ≡ Some cell → (w : Value) × ((convert_of types cell.kind v ≡ came.Value w) × Replaces old c (Plain w) new)
Writes types c v old (Err (refused.BadKind given)) new = (new ≡ old) × (given ≡ kind_of v) × ((cell : Cell) → slice_get old.cells (place_of old.cells c) ≡ Some cell → (w : Value) → convert_of types cell.kind v ≢ came.Value w)
Writes types c v old (Err refused.NoMemory) new = new ≡ old
