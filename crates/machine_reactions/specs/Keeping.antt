-- What a reaction keeps.
use Rattle.std.specs.Prelude.{◌≡◌}
use Rattle.machine_state.specs.declared.state.State.{State}

-- the tree and what was loaded
pub record Same (old new : State) : Type 0 where
  pub tree : new.tree ≡ old.tree
  pub units : new.units ≡ old.units
