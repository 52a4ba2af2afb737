-- The names of units that belong to no object.
use Rattle.std.specs.Prelude.{◌≡◌, ℕ, List, [], ◌++◌}
use Rattle.qml_scope.specs.declared.shape.Shape.{Shape}
use Rattle.unit_rows.specs.declared.unit.Unit.{Unit}
use Rattle.unit_rows.specs.Seen.{all_seen}
use Rattle.live_tree.specs.Live.{Live}
use Rattle.machine_model.specs.Runs.{shapes_from}

-- of units with numbers from one on
abbrev pub shapes_of : ℕ → List Unit → List Shape
shapes_of n units = shapes_from n (all_seen units)

-- they stand behind the others, and nothing else is changed
pub record AddsUnits (n : ℕ) (units : List Unit) (old new : Live) : Type 0 where
  pub tree : new.tree ≡ old.tree
  pub given : new.given ≡ old.given
  pub instances : new.known.instances ≡ old.known.instances ++ shapes_of n units
  pub told : new.known.told ≡ old.known.told

-- no objects, and these names
pub record IsEmpty (units : List Unit) (live : Live) : Type 0 where
  pub objects : live.tree.objects ≡ []
  pub cells : live.tree.cells ≡ []
  pub given : live.given ≡ 0
  pub instances : live.known.instances ≡ shapes_of 0 units
  pub told : live.known.told ≡ []
