-- Settling makes a tree fresh, so every event and every run ends with a fresh tree.
use Rattle.std.proofs.Common.{◌≡◌, refl, ℕ, List, [], ◌∷◌}
use Rattle.std.specs.declared.result.Result.{Result}
use Rattle.std.specs.declared.result.Result.TheVariants.{Ok, Err}
use Rattle.qml_base.specs.declared.numbers.CellNo.{CellNo}
use Rattle.qml_syntax.specs.Tree.{Units}
use Rattle.instance_plans.specs.Numbers.{AllRows}
use Rattle.machine_model.specs.Texts.{world_of}
use Rattle.machine_model.specs.State as state
use Rattle.machine_model.specs.State.{Machine, Stop}
use Rattle.machine_model.specs.Acts.{Ran, goes, stops, then_go, each}
use Rattle.machine_model.specs.Settling.{Settled, settled_of}
use Rattle.machine_model.specs.Emission as emission
use Rattle.machine_model.specs.Making as making
use Rattle.machine_model.specs.Lines as lines
use Rattle.machine_model.specs.Lines.{Event}
use Rattle.machine_model.specs.Runs.{ShownEvent, Run, run_from, begun, next, after_stop}
use Rattle.machine_model.specs.Keeping.{IsFresh, Any, FreshAfter, FreshAtEnd}
use Rattle.machine_model.proofs.SettlingLemmas.{settled_is_fresh}
use Rattle.machine_model.proofs.KeepLemmas.{Kept, event_done}

settled_by : (m : Machine) (r : Result Settled CellNo) → settled_of (world_of m.units m.known) m.tree ≡ r → FreshAfter (emission.with_settled m r)
settled_by m (Ok s) e = settled_is_fresh (world_of m.units m.known) m.tree s e
settled_by m (Err c) e = tt

settles_after : (r : Ran (Unit {0})) → FreshAfter (then_go r (λ a. emission.settle))
settles_after (goes a m) = settled_by m (settled_of (world_of m.units m.known) m.tree) refl
settles_after (stops s m) = tt

kept_fresh : Kept IsFresh Any
kept_fresh = record {
  stopping = λ m h. tt;
  telling = λ e m h. h;
  spending = λ m h. h;
  timing = λ t m h. h;
  writing = λ contents m h. settles_after (each emission.put contents m);
  adding = λ origin planned i before m h. settles_after (making.add_told origin planned i before m);
}

pub event_leaves_fresh : (root most : ℕ) (shown : Units) (e : Event) (m : Machine) → IsFresh m → FreshAfter (lines.event root most shown e m)
event_leaves_fresh root most shown e m h = (event_done IsFresh Any kept_fresh root e).at (lines.begun_event most shown m) h

pub begun_fresh : (units : AllRows) → IsFresh (begun units)
begun_fresh units i cell e = cc

stop_ends : (s : Stop) (m : Machine) (r : Ran (Unit {0})) (most : ℕ) → FreshAtEnd (after_stop most s m r)
stop_ends state.unanswered m (goes a n) most = tt
stop_ends state.unanswered m (stops t n) most = tt
stop_ends (state.past at) m (goes a n) most = tt
stop_ends (state.past at) m (stops t n) most = tt
stop_ends (state.nesting o h) m (goes a n) most = tt
stop_ends (state.nesting o h) m (stops t n) most = tt
stop_ends state.turns m (goes a n) most = tt
stop_ends state.turns m (stops t n) most = tt
stop_ends state.objects m (goes a n) most = tt
stop_ends state.objects m (stops t n) most = tt

next_fresh : (most : ℕ) (go_on : Machine → Run) (r : Ran (Unit {0})) → FreshAfter r → ((n : Machine) → IsFresh n → FreshAtEnd (go_on n)) → FreshAtEnd (next most go_on r)
next_fresh most go_on (goes a n) h k = k n h
next_fresh most go_on (stops s n) h k = stop_ends s n (lines.stop_entry most s n) most

pub run_fresh : (root most : ℕ) (events : List ShownEvent) (m : Machine) → IsFresh m → FreshAtEnd (run_from root most events m)
run_fresh root most [] m h = h
run_fresh root most (e ∷ rest) m h =
    next_fresh most (run_from root most rest) (lines.event root most e.shown e.event m) (event_leaves_fresh root most e.shown e.event m h)
    (λ n k. run_fresh root most rest n k)
