-- How what hangs on an object is found.
use Rattle.std.specs.Prelude.{◌≡◌, ℕ, ◌<◌, List, length, Option, Some, slice_get, slice_index}
use Rattle.qml_base.specs.declared.numbers.ObjNo.{ObjNo}
use Rattle.tree_model.specs.declared.cells.Object.{Object}
use Rattle.object_tree.specs.declared.links.Tie.{Tie}
use Rattle.object_tree.specs.declared.links.Tie.TheVariants as tie

-- the object on which one hangs
abbrev pub parent_by : Tie → Object → Option ObjNo
parent_by tie.Owned x = x.owner
parent_by tie.Made x = x.origin

-- of the first n objects, whatever hangs on one stands before the place that is told for that one as the last
abbrev pub EndBefore : Tie → ℕ → List Object → List ℕ → Type 0
EndBefore t n objects last = (i j : ℕ) (x y : Object) → i < n → j < n → slice_get objects i ≡ Some x → slice_get objects j ≡ Some y → parent_by t y ≡ Some x.number → j < slice_index last i

-- and what stands before one and hangs on the same live object, before the place that is told for it
abbrev pub GoOn : Tie → ℕ → List Object → List ℕ → Type 0
GoOn t n objects before = (i j k : ℕ) (x y z : Object) → i < n → j < i → slice_get objects i ≡ Some x → slice_get objects j ≡ Some y → slice_get objects k ≡ Some z → parent_by t x ≡ Some z.number → parent_by t y ≡ Some z.number → j < slice_index before i

pub record IsLinked (t : Tie) (n : ℕ) (objects : List Object) (last before : List ℕ) : Type 0 where
  pub ends : EndBefore t n objects last
  pub goes_on : GoOn t n objects before

-- the lists tell of all objects
pub record IsTied (t : Tie) (objects : List Object) (last before : List ℕ) : Type 0 where
  pub lasts : length last ≡ length objects
  pub befores : length before ≡ length objects
  pub linked : IsLinked t (length objects) objects last before
