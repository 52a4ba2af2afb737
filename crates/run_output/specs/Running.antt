-- The whole run of a root and a script: from the bytes of files and the readings of the clock to what is written.
use Rattle.std.specs.Prelude.{◌≡◌, ℕ, ◌<◌, ◌≤◌, nat_lt, Bool, true, false, List, [], length, Option, Some, None}
use Rattle.qml_outside.specs.Folder.{Folder, file_at}
use Rattle.qml_lexer.specs.Places.{body_of}
use Rattle.program_names.specs.Paths.{Path}
use Rattle.program_names.specs.Reading.{Sources}
use Rattle.program_names.specs.Loaded.{Program, program_of}
use Rattle.program_names.specs.Components.{Roots}
use Rattle.program_names.specs.ComponentRoots.{roots_of}
use Rattle.load_faults.specs.Loading.{Loading, unending, refuses, loads, loading}
use Rattle.load_faults.specs.NotYet.{Stage, rank, stage_of_program}
use Rattle.program_reading.specs.Known.{AreOf}
use Rattle.event_script.specs.Lines.{lines_of}
use Rattle.event_script.specs.Script.{Say, FirstBad}
use Rattle.event_script.specs.declared.script.Line.{Line}
use Rattle.machine_model.specs.Runs.{run_of}
use Rattle.run_output.specs.Reading.{ScriptLine, AreLines}
use Rattle.run_output.specs.Units.{is_refused, is_of_later, first_line, units_with, events_from, has_readings}
use Rattle.run_output.specs.Output.{Output, shown_path, refused_document, not_built, refused_script, output_of}

-- ---- the script

-- it is refused at a line, as a whole at 0, or has these lines
pub data ScriptRead : Type 0 where
  refused_at : ℕ → ScriptRead
  has_lines : List ScriptLine → ScriptRead

-- what a script's file is read as
pub data ReadsScript : Option (List ℕ) → ScriptRead → Type 0 where
  missing : ReadsScript None (refused_at 0)
  too_large : {bytes : List ℕ} → 4194304 < length bytes → ReadsScript (Some bytes) (refused_at 0)
  bad_line : {bytes : List ℕ} {n : ℕ} → length bytes ≤ 4194304 → FirstBad 1 (lines_of (body_of bytes)) n
      → ReadsScript (Some bytes) (refused_at n)
  all_lines : {bytes : List ℕ} {said : List Line} {lines : List ScriptLine} → length bytes ≤ 4194304
      → Say 1 (lines_of (body_of bytes)) said
      → AreLines said lines → ReadsScript (Some bytes) (has_lines lines)

-- ---- what is asked for: a root and a script, so many deliveries a line, and the stage up to which all forms are built

pub record Asked : Type 0 where
  pub root : Path
  pub script : Path
  pub most : ℕ
  pub built : Stage

-- the lines are run
abbrev pub run_lines : Asked → List ℕ → Program → Roots → List ScriptLine → Output
run_lines asked readings p roots lines =
    let events = events_from (length p) readings lines in
    output_of (has_readings readings lines) (run_of (units_with p roots lines) 0 (shown_path asked.root) asked.most events)

abbrev pub unless_later : Asked → List ℕ → Program → Roots → List ScriptLine → Option ℕ → Output
unless_later asked readings p roots lines (Some n) = refused_script asked.script n true
unless_later asked readings p roots lines None = run_lines asked readings p roots lines

abbrev pub unless_refused : Asked → List ℕ → Program → Roots → List ScriptLine → Option ℕ → Output
unless_refused asked readings p roots lines (Some n) = refused_script asked.script n false
unless_refused asked readings p roots lines None =
    unless_later asked readings p roots lines (first_line (is_of_later asked.built) lines)

-- of the lines that are refused the first is told, and only then one that isn't built yet
abbrev pub with_script : Asked → List ℕ → Program → Roots → ScriptRead → Output
with_script asked readings p roots (refused_at n) = refused_script asked.script n false
with_script asked readings p roots (has_lines lines) =
    unless_refused asked readings p roots lines (first_line (is_refused p roots 0) lines)

-- ---- the whole

abbrev pub is_later : Stage → Program → Roots → Bool
is_later built p roots = nat_lt (rank built) (rank (stage_of_program p roots))

-- the script of a program that is loaded is read and run
pub record IsByScript (asked : Asked) (readings : List ℕ) (files : Folder) (p : Program) (roots : Roots) (output : Output)
    : Type 0 where
  pub read : ScriptRead
  pub reads : ReadsScript (file_at files asked.script) read
  pub is : output ≡ with_script asked readings p roots read

abbrev pub IsUnlessLater : Bool → Asked → List ℕ → Folder → Program → Roots → Output → Type 0
IsUnlessLater true asked readings files p roots output = output ≡ not_built asked.root
IsUnlessLater false asked readings files p roots output = IsByScript asked readings files p roots output

-- the root is the first file that is read, so its number is 0
abbrev pub IsByLoading : Asked → List ℕ → Folder → Sources → Loading → Output → Type 0
IsByLoading asked readings files sources (refuses path f) output = output ≡ refused_document path f
IsByLoading asked readings files sources (loads known order) output =
    let p = program_of sources known in
    IsUnlessLater (is_later asked.built p (roots_of p)) asked readings files p (roots_of p) output
IsByLoading asked readings files sources unending output = ⊥

-- What is written for a root and a script over these files, where the clock reads so: the program is loaded or refused,
-- the script is read or refused, and its lines are run.
pub record IsOutput (asked : Asked) (files : Folder) (readings : List ℕ) (output : Output) : Type 0 where
  pub sources : Sources
  pub are : AreOf (Some files) sources
  pub most : ℕ
  pub is : IsByLoading asked readings files sources (loading sources [] most asked.root) output
