-- What a body sees of a tree, and what it does next.
use Rattle.std.specs.Prelude.{ℕ, ◌<◌, nat_eq, ◌&&◌}
use Rattle.std.specs.List.{list_any}
use Rattle.qml_value.specs.declared.value.Value.{Value}
use Rattle.evaluation.specs.Ask.{Ask}
use Rattle.js_meaning.specs.Resuming as resuming
use Rattle.js_meaning.specs.Resuming.{Sight, an_effect, an_end}
use Rattle.tree_model.specs.declared.cells.Object.{Object}
use Rattle.tree_model.specs.Settling.{place_of, held_at}
use Rattle.qml_scope.specs.Shapes.{names_of}
use Rattle.live_tree.specs.Live.{Live}
use Rattle.machine_bodies.specs.declared.bodies.Action.{Action}
use Rattle.machine_bodies.specs.declared.bodies.Action.TheVariants as action

-- its names, what its cells hold, and which of its objects are condemned
abbrev pub sight_of : Live → Sight
sight_of live = record {
  names = names_of live.known;
  held = λ c. held_at live.tree.cells (place_of live.tree.cells c);
  is_condemned = λ o. list_any (λ (x : Object). nat_eq x.number.0 o.0 && x.condemned) live.tree.objects;
}

-- what stands for an action, where a waiting body goes on so and has so many nodes left
abbrev pub action_meant : {W : Type 0} → (W → Value → Ask) → (W → ℕ) → Action W → resuming.Action
action_meant go left (action.Effect e w) = an_effect e (left w) (go w)
action_meant go left (action.End o) = an_end o

-- fewer nodes are left behind the action
abbrev pub HasFewer : {W : Type 0} → (W → ℕ) → ℕ → Action W → Type 0
HasFewer left n (action.Effect e w) = left w < n
HasFewer left n (action.End o) = Unit {0}
