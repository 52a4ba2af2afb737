-- A body goes by its next action.
use Rattle.std.proofs.Common.{◌≡◌, refl}
use Rattle.evaluation.specs.declared.came.Ended.TheVariants as by
use Rattle.evaluation.specs.Ask.{Ask, ended, reads, finds, has, by_id, condemned, does}
use Rattle.qml_scope.specs.Shapes.{names_of}
use Rattle.js_meaning.specs.Resuming.{next_action}
use Rattle.trace_print.specs.declared.entry.Site.{Site}
use Rattle.machine_model.specs.State.{Machine}
use Rattle.machine_model.specs.Showing.{held_in}
use Rattle.machine_model.specs.Dispatch.{is_condemned}
use Rattle.machine_model.specs.Emission.{Below}
use Rattle.machine_model.specs.Bodies.{exec, exec_next, sight}

pub goes_by_action : (below : Below) (at : Site) (ask : Ask) (m : Machine) → exec below at ask m ≡ exec_next below at (next_action (sight m) ask) m
goes_by_action below at (ended (by.Value v)) m = refl
goes_by_action below at (ended (by.Threw why)) m = refl
goes_by_action below at (ended by.Past) m = refl
goes_by_action below at (reads c go) m = goes_by_action below at (go (held_in m c)) m
goes_by_action below at (finds home name go) m = goes_by_action below at (go ((names_of m.known).resolve home name)) m
goes_by_action below at (has o name go) m = goes_by_action below at (go ((names_of m.known).member o name)) m
goes_by_action below at (by_id home name go) m = goes_by_action below at (go ((names_of m.known).is_id home name)) m
goes_by_action below at (condemned o go) m = goes_by_action below at (go (is_condemned m o)) m
goes_by_action below at (does e left go) m = refl
