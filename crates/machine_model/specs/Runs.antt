-- A run: the opening and the lines in order, up to the end or a stop.
use Rattle.std.specs.Prelude.{ℕ, suc, List, [], ◌∷◌, ◌++◌, codes}
use Rattle.qml_syntax.specs.Tree.{Units}
use Rattle.qml_scope.specs.declared.shape.Shape.{Shape}
use Rattle.unit_rows.specs.Rows.{UnitRows}
use Rattle.instance_plans.specs.Numbers.{AllRows}
use Rattle.instance_plans.specs.NamesMade.{names_of_unit}
use Rattle.instance_plans.specs.Shaped.{shape_made}
use Rattle.machine_model.specs.State.{Machine, unanswered, Stop}
use Rattle.machine_model.specs.Acts.{Ran, goes, stops}
use Rattle.machine_model.specs.Lines.{Event, opening, event, stop_entry}

abbrev pub shapes_from : ℕ → List UnitRows → List Shape
shapes_from n [] = []
shapes_from n (u ∷ rest) = shape_made (names_of_unit n u) ∷ shapes_from (suc n) rest

-- before the opening: no objects, and of names those of the units that belong to no object
abbrev pub begun : AllRows → Machine
begun units = record {
  units = units;
  tree = record { objects = []; cells = [] };
  given = 0;
  known = record { instances = shapes_from 0 units; told = [] };
  written = [];
  time = 0;
  turns = 0;
  trace = [];
  answered = 0;
}

-- a line as it is shown, with what it does
pub record ShownEvent : Type 0 where
  pub shown : Units
  pub event : Event

-- how a run ends: at its end, by a stop, or since an answer is wanting
pub data RunEnd : Type 0 where
  whole : RunEnd
  stopped : RunEnd
  cut_off : RunEnd

pub record Run : Type 0 where
  pub machine : Machine
  pub ends : RunEnd

abbrev pub end_by : Stop → RunEnd
end_by unanswered = cut_off
end_by s = stopped

abbrev pub after_stop : ℕ → Stop → Machine → Ran (Unit {0}) → Run
after_stop most s m (goes a n) = record { machine = n; ends = end_by s }
after_stop most s m (stops t n) = record { machine = m; ends = end_by s }

abbrev pub next : ℕ → (Machine → Run) → Ran (Unit {0}) → Run
next most go_on (goes a m) = go_on m
next most go_on (stops s m) = after_stop most s m (stop_entry most s m)

-- events of a root, each with so many turns
abbrev pub run_from : ℕ → ℕ → List ShownEvent → Machine → Run
run_from root most [] m = record { machine = m; ends = whole }
run_from root most (e ∷ rest) m = next most (run_from root most rest) (event root most e.shown e.event m)

abbrev pub opening_of : ℕ → Units → ShownEvent
opening_of root path = record { shown = codes "open " ++ path; event = opening root }

-- the root of a number, whose path is shown so, is opened, and then the lines come
abbrev pub run_of : AllRows → ℕ → Units → ℕ → List ShownEvent → Run
run_of units root path most lines = run_from root most (opening_of root path ∷ lines) (begun units)
