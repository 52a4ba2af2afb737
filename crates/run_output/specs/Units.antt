-- Lines as units and events: each text of a line is a unit of its own, behind those of the program.
use Rattle.std.specs.Prelude.{ℕ, suc, nat_lt, Bool, true, false, List, [], ◌∷◌, ◌++◌, if◌then◌else◌, Option, Some, None}
use Rattle.qml_base.specs.declared.numbers.ExprNo.{ExprNo}
use Rattle.program_names.specs.Loaded.{Program}
use Rattle.program_names.specs.Components.{Roots}
use Rattle.load_faults.specs.Effects.{line_faults}
use Rattle.load_faults.specs.Faults.{Faults}
use Rattle.load_faults.specs.NotYet.{Stage, rank, stage_of_line}
use Rattle.unit_rows.specs.Rows.{UnitRows}
use Rattle.unit_rows.specs.UnitRows.{rows_of_program, rows_of_line, rows_of_path}
use Rattle.instance_plans.specs.Numbers.{AllRows, unit_no}
use Rattle.machine_model.specs.Lines.{Event, statements, advance, reading, print_all, print_path}
use Rattle.machine_model.specs.Runs.{ShownEvent}
use Rattle.run_output.specs.Reading.{Doing, runs, shows, shows_all, goes_on, ticks, ScriptLine}

-- ---- which lines are refused

abbrev pub has_any : Faults → Bool
has_any [] = false
has_any (f ∷ rest) = true

-- a line whose `Qt.binding` isn't at its place or has an effect, in the scope of the root of a document
abbrev pub is_refused : Program → Roots → ℕ → Doing → Bool
is_refused p roots d (runs ss) = has_any (line_faults p roots d ss)
is_refused p roots d doing = false

-- a line with a form of a stage that isn't built yet
abbrev pub is_of_later : Stage → Doing → Bool
is_of_later built (runs ss) = nat_lt (rank built) (rank (stage_of_line ss))
is_of_later built doing = false

-- the number of the first line of which this holds
abbrev pub first_line : (Doing → Bool) → List ScriptLine → Option ℕ
first_line test [] = None
first_line test (line ∷ rest) = if test line.does then Some line.number else first_line test rest

-- ---- units

abbrev pub texts_of : Doing → List UnitRows
texts_of (runs ss) = rows_of_line ss ∷ []
texts_of (shows path e) = rows_of_path e ∷ []
texts_of doing = []

abbrev pub texts_of_lines : List ScriptLine → List UnitRows
texts_of_lines [] = []
texts_of_lines (line ∷ rest) = texts_of line.does ++ texts_of_lines rest

abbrev pub units_with : Program → Roots → List ScriptLine → AllRows
units_with p roots lines = rows_of_program p roots ++ texts_of_lines lines

-- ---- events

-- the only text of a line's unit
abbrev pub text_of : ℕ → ExprNo
text_of u = record { unit = unit_no u; at = 0 }

abbrev pub shown_event : ScriptLine → Event → ShownEvent
shown_event line e = record { shown = line.shown; event = e }

-- the events from a line on: `next` are those behind it, by the number of the next unit and the readings that are left;
-- where a reading is wanting, the events end
abbrev pub events_of_line : ℕ → List ℕ → ScriptLine → Doing → (ℕ → List ℕ → List ShownEvent) → List ShownEvent
events_of_line u readings line (runs ss) next = shown_event line (statements (text_of u)) ∷ next (suc u) readings
events_of_line u readings line (shows path e) next =
    shown_event line (print_path path (text_of u)) ∷ next (suc u) readings
events_of_line u readings line shows_all next = shown_event line print_all ∷ next u readings
events_of_line u readings line (goes_on n) next = shown_event line (advance n) ∷ next u readings
events_of_line u [] line ticks next = []
events_of_line u (r ∷ readings) line ticks next = shown_event line (reading r) ∷ next u readings

abbrev pub events_from : ℕ → List ℕ → List ScriptLine → List ShownEvent
events_from u readings [] = []
events_from u readings (line ∷ rest) = events_of_line u readings line line.does (λ v left. events_from v left rest)

-- whether there is a reading for each line that takes one
abbrev pub has_readings_for : List ℕ → Doing → (List ℕ → Bool) → Bool
has_readings_for [] ticks next = false
has_readings_for (r ∷ readings) ticks next = next readings
has_readings_for readings doing next = next readings

abbrev pub has_readings : List ℕ → List ScriptLine → Bool
has_readings readings [] = true
has_readings readings (line ∷ rest) = has_readings_for readings line.does (λ left. has_readings left rest)
