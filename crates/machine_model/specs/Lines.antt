-- Events: the opening, and the lines of a script.
use Rattle.std.specs.Prelude.{ℕ, ◌+◌, ◌^◌, ◌++◌, nat_lt, if◌then◌else◌, [], ◌∷◌}
use Rattle.qml_base.specs.declared.numbers.ExprNo.{ExprNo}
use Rattle.qml_base.specs.declared.names.Home.{Home}
use Rattle.qml_syntax.specs.Tree.{Units}
use Rattle.qml_value.specs.declared.value.Value.{Value}
use Rattle.evaluation.specs.declared.came.Came.{Came}
use Rattle.evaluation.specs.declared.came.Came.TheVariants as came
use Rattle.evaluation.specs.Evaluating.{is, Reading, evaluated}
use Rattle.qml_scope.specs.Shapes.{names_of}
use Rattle.qml_base.specs.declared.cause.Cause.{Cause}
use Rattle.trace_print.specs.declared.entry.Entry.{Entry}
use Rattle.trace_print.specs.declared.entry.Entry.TheVariants as entry
use Rattle.trace_print.specs.declared.entry.Site.{Site}
use Rattle.trace_print.specs.declared.entry.Site.TheVariants as site
use Rattle.instance_plans.specs.Numbers.{unit_no, object_no}
use Rattle.machine_model.specs.Texts.{binding_asks, body_asks}
use Rattle.machine_model.specs.State.{Machine, past, nesting, turns, objects, unanswered, Stop}
use Rattle.machine_model.specs.Acts.{Done, ◌>>=◌, ◌>>◌, nothing, look, turn_into, tell}
use Rattle.machine_model.specs.Showing.{held_in, show_all}
use Rattle.machine_model.specs.Emission.{Below}
use Rattle.machine_model.specs.Bodies.{exec}
use Rattle.machine_model.specs.Making.{opened}
use Rattle.machine_model.specs.Levels.{deliver}

-- the root of a unit is opened; a line's statements are run; time goes on by so many milliseconds, or up to a reading of the
-- clock; all cells are shown, or what a path comes to
pub data Event : Type 0 where
  opening : ℕ → Event
  statements : ExprNo → Event
  advance : ℕ → Event
  reading : ℕ → Event
  print_all : Event
  print_path : Units → ExprNo → Event

abbrev pub lesser : ℕ → ℕ → ℕ
lesser a b = if nat_lt a b then a else b

abbrev pub greater : ℕ → ℕ → ℕ
greater a b = if nat_lt a b then b else a

-- 24 deliveries may be under way in one another
abbrev pub top : Below
top = deliver 24

-- lines stand in the root's scope, with the root as author
abbrev pub line_home : ℕ → Home
line_home u = record { unit = unit_no u; scope = object_no 1; author = object_no 1 }

abbrev pub set_time : (ℕ → ℕ) → Done
set_time f = turn_into (λ m. record m { time = f m.time })

-- ---- `print` with a path reads what cells hold, whatever their outcome

abbrev pub held_reading : Machine → Reading
held_reading m c = is (held_in m c)

abbrev pub path_came : ℕ → ExprNo → Machine → Came
path_came root e m = (evaluated (names_of m.known) (held_reading m) (binding_asks m.units e (line_home root))).came

abbrev pub path_entry : Units → Value → Entry
path_entry path v = entry.PrintPath path v

abbrev pub path_threw : Cause → Entry
path_threw why = entry.ThrewReport site.Print why

abbrev pub show : Units → Came → Done
show path (came.Value v) = tell (path_entry path v)
show path (came.Threw why) = tell (path_threw why)
show path came.Loop = nothing
show path came.Past = nothing

abbrev pub line_site : Site
line_site = site.Do

abbrev pub line_entry : Units → Entry
line_entry shown = entry.Line shown

-- the machine once an event is told, with the turns that it has
abbrev pub begun_event : ℕ → Units → Machine → Machine
begun_event most shown m = record m { turns = most; trace = m.trace ++ line_entry shown ∷ [] }

-- ---- what an event does; the unit of the root is handed for the lines

abbrev pub do_event : ℕ → Event → Done
do_event root (opening u) = opened top u
do_event root (statements e) = look (λ m. body_asks m.units e (line_home root) [] []) >>= (λ ask. exec top line_site ask)
do_event root (advance n) = set_time (λ t. lesser (t + n) (2 ^ 60))
do_event root (reading r) = set_time (λ t. greater t (lesser r (2 ^ 53)))
do_event root print_all = show_all
do_event root (print_path path e) = look (path_came root e) >>= show path

-- an event is told, and has so many turns
abbrev pub event : ℕ → ℕ → Units → Event → Done
event root most shown e = turn_into (begun_event most shown) >> do_event root e

-- ---- the entry of a stop; where answers are wanting none is told

abbrev pub stop_entry : ℕ → Stop → Done
stop_entry most (past at) = tell (entry.StopPast at)
stop_entry most (nesting o handler) = tell (entry.StopNesting o handler)
stop_entry most turns = tell (entry.StopTurns most)
stop_entry most objects = tell (entry.StopObjects 100000)
stop_entry most unanswered = nothing
