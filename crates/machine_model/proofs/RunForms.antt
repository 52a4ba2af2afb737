-- The form in which examples of runs are written: a program, the lines of a script, and the lines of the trace.
use Rattle.std.specs.Prelude.{ℕ, suc, List, [], ◌∷◌, ◌++◌, map, length, codes}
use Rattle.qml_syntax.specs.Tree.{Units, Expr, Stmts}
use Rattle.qml_base.specs.declared.numbers.ExprNo.{ExprNo}
use Rattle.program_names.specs.Loaded.{Program}
use Rattle.program_names.specs.ComponentRoots.{roots_of}
use Rattle.trace_print.specs.Entries.{shown_entry}
use Rattle.unit_rows.specs.Rows.{UnitRows}
use Rattle.unit_rows.specs.UnitRows.{rows_of_program, rows_of_line, rows_of_path}
use Rattle.instance_plans.specs.Numbers.{unit_no}
use Rattle.machine_model.specs.Lines.{Event, statements, advance, print_all, print_path}
use Rattle.machine_model.specs.Runs.{ShownEvent, run_of}
pub use Rattle.program_names.proofs.ExampleFiles.{at, file, held, sources}

pub data ScriptLine : Type 0 where
  does : Units → Stmts → ScriptLine
  prints : Units → Units → Expr → ScriptLine
  prints_all : ScriptLine
  advances : Units → ℕ → ScriptLine

-- each line with statements or a path is a unit behind those of the program
abbrev rows_of : ScriptLine → List UnitRows
rows_of (does shown ss) = rows_of_line ss ∷ []
rows_of (prints shown path e) = rows_of_path e ∷ []
rows_of line = []

abbrev rows_of_lines : List ScriptLine → List UnitRows
rows_of_lines [] = []
rows_of_lines (line ∷ rest) = rows_of line ++ rows_of_lines rest

abbrev text_of : ℕ → ExprNo
text_of u = record { unit = unit_no u; at = 0 }

abbrev shown_event : Units → Event → ShownEvent
shown_event shown e = record { shown = shown; event = e }

abbrev events_from : ℕ → List ScriptLine → List ShownEvent
events_from u [] = []
events_from u (does shown ss ∷ rest) = shown_event shown (statements (text_of u)) ∷ events_from (suc u) rest
events_from u (prints shown path e ∷ rest) = shown_event shown (print_path path (text_of u)) ∷ events_from (suc u) rest
events_from u (prints_all ∷ rest) = shown_event (codes "print") print_all ∷ events_from u rest
events_from u (advances shown n ∷ rest) = shown_event shown (advance n) ∷ events_from u rest

abbrev pub lines : List Units → List Units
lines ls = ls

-- what the run of a program's first document tells
abbrev pub run_tells : ℕ → Program → List ScriptLine → List Units
run_tells most p script =
    let units = rows_of_program p (roots_of p) in
    map shown_entry (run_of (units ++ rows_of_lines script) 0 (codes "main.qml") most (events_from (length units) script)).machine.trace
