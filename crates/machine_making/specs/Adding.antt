-- The tree with the objects of an instance.
use Rattle.std.specs.Prelude.{◌≡◌, ◌≤◌, ◌<◌, ◌+◌, ℕ, suc, Bool, false, List, [], ◌∷◌, ◌++◌, length, if◌then◌else◌, Option, Some}
use Rattle.std.specs.Option.{option_map}
use Rattle.qml_base.specs.declared.numbers.ObjNo.{ObjNo}
use Rattle.qml_types.specs.declared.kind.TypeRef.{TypeRef}
use Rattle.trace_print.specs.declared.entry.Entry.{Entry}
use Rattle.trace_print.specs.declared.entry.Entry.TheVariants as entry
use Rattle.tree_model.specs.declared.cells.Object.{Object}
use Rattle.tree_model.specs.declared.cells.Cell.{Cell}
use Rattle.property_store.specs.Stores.{new_cells}
use Rattle.qml_scope.specs.declared.shape.Shape.{Shape}
use Rattle.instance_plans.specs.Numbers.{object_no}
use Rattle.instance_contents.specs.Making.{Looks}
use Rattle.live_tree.specs.Live.{Live}

abbrev pub object_added : Option ObjNo → ℕ → Looks → Object
object_added origin n x = record { number = object_no n; owner = option_map object_no x.owner; origin = origin; condemned = false }

-- objects with numbers from one on
abbrev pub objects_added : Option ObjNo → ℕ → List Looks → List Object
objects_added origin n [] = []
objects_added origin n (x ∷ rest) = object_added origin n x ∷ objects_added origin (suc n) rest

abbrev pub cells_added : ℕ → List Looks → List Cell
cells_added n [] = []
cells_added n (x ∷ rest) = new_cells (object_no n) 0 x.cells ++ cells_added (suc n) rest

abbrev pub types_added : ℕ → List Looks → List (ObjNo × List TypeRef)
types_added n [] = []
types_added n (x ∷ rest) = (object_no n, x.types) ∷ types_added (suc n) rest

-- what is told of them, and the objects that have a start, with numbers from one on
abbrev pub made_told : ℕ → List Looks → List Entry
made_told n [] = []
made_told n (x ∷ rest) = entry.Make (object_no n) x.shown ∷ made_told (suc n) rest

abbrev pub if_starts : Bool → ObjNo → List ObjNo
if_starts starts o = if starts then o ∷ [] else []

abbrev pub starting : ℕ → List Looks → List ObjNo
starting n [] = []
starting n (x ∷ rest) = if_starts x.starts (object_no n) ++ starting (suc n) rest

-- each owner is an object of the instance that comes before
abbrev pub OwnedBefore : ℕ → ℕ → List Looks → Type 0
OwnedBefore first n [] = Unit {0}
OwnedBefore first n (x ∷ rest) = ((p : ℕ) → x.owner ≡ Some p → (first ≤ p) × (p < n)) × OwnedBefore first (suc n) rest

-- the objects stand behind the others with their cells and types
pub record AddsObjects (origin : Option ObjNo) (made : List Looks) (old new : Live) : Type 0 where
  pub objects : new.tree.objects ≡ old.tree.objects ++ objects_added origin (suc old.given) made
  pub cells : new.tree.cells ≡ old.tree.cells ++ cells_added (suc old.given) made
  pub given : new.given ≡ old.given + length made
  pub instances : new.known.instances ≡ old.known.instances
  pub told : new.known.told ≡ old.known.told ++ types_added (suc old.given) made

-- what telling them adds to the trace, and to the objects that have a start
pub record TellsObjects (given : ℕ) (made : List Looks) (old new : List Entry) (before after : List ObjNo) : Type 0 where
  pub trace : new ≡ old ++ made_told (suc given) made
  pub starts : after ≡ before ++ starting (suc given) made

-- and the names of their instances behind the others
pub record AddsAll (origin : Option ObjNo) (made : List Looks) (shapes : List Shape) (old new : Live) : Type 0 where
  pub objects : new.tree.objects ≡ old.tree.objects ++ objects_added origin (suc old.given) made
  pub cells : new.tree.cells ≡ old.tree.cells ++ cells_added (suc old.given) made
  pub given : new.given ≡ old.given + length made
  pub instances : new.known.instances ≡ old.known.instances ++ shapes
  pub told : new.known.told ≡ old.known.told ++ types_added (suc old.given) made

-- names alone
pub record AddsShapes (shapes : List Shape) (old new : Live) : Type 0 where
  pub tree : new.tree ≡ old.tree
  pub given : new.given ≡ old.given
  pub instances : new.known.instances ≡ old.known.instances ++ shapes
  pub told : new.known.told ≡ old.known.told
