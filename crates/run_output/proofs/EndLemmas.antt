-- An output that ends says so in its last entry.
use Rattle.std.proofs.Common.{◌≡◌, sym, refl, subst, ℕ, Bool, true, false, List, [], ◌∷◌, length, Option, Some, None}
use Rattle.trace_print.specs.declared.entry.Entry.{Entry}
use Rattle.program_names.specs.Reading.{Sources, start_of_file}
use Rattle.program_names.specs.Paths.{Path}
use Rattle.program_names.specs.declared.fault.Fault.{Fault}
use Rattle.qml_base.specs.declared.load_cause.LoadCause.TheVariants as cause
use Rattle.program_names.specs.Loaded.{Program, program_of}
use Rattle.program_names.specs.Components.{Roots}
use Rattle.program_names.specs.ComponentRoots.{roots_of}
use Rattle.qml_outside.specs.Folder.{Folder}
use Rattle.load_faults.specs.Loading.{Loading, unending, refuses, loads, loading}
use Rattle.machine_model.specs.Runs.{RunEnd, whole, stopped, cut_off, run_of}
use Rattle.run_output.specs.Reading.{ScriptLine}
use Rattle.run_output.specs.Units.{is_refused, is_of_later, first_line, units_with, events_from, has_readings}
use Rattle.run_output.specs.Output.{Output, Ending, stop, document, script, ended, shown_path, document_entry, refused_document, not_built, script_entry, refused_script, ending_of, output_by, EndsSo}
use Rattle.run_output.specs.Running.{Asked, ScriptRead, refused_at, has_lines, unless_later, unless_refused, with_script, IsUnlessLater, is_later, IsByLoading, IsOutput}

ended_so : (entries : List Entry) (e : Ending) → EndsSo (ended entries e)
ended_so entries e = record { front = entries; is = refl }

by_end : (is_all : Bool) (trace : List Entry) (end : RunEnd) → EndsSo (output_by is_all trace end)
by_end is_all trace stopped = ended_so trace stop
by_end is_all trace cut_off = tt
by_end true trace whole = ended_so trace (ending_of trace)
by_end false trace whole = tt

script_so : (path : Path) (n : ℕ) (not_yet : Bool) → EndsSo (refused_script path n not_yet)
script_so path n not_yet = ended_so (script_entry path n not_yet ∷ []) script

document_so : (path : Path) (f : Fault) → EndsSo (refused_document path f)
document_so path f = ended_so (document_entry path f ∷ []) document

by_later : (asked : Asked) (readings : List ℕ) (p : Program) (roots : Roots) (lines : List ScriptLine) (n : Option ℕ)
    → EndsSo (unless_later asked readings p roots lines n)
by_later asked readings p roots lines (Some n) = script_so asked.script n true
by_later asked readings p roots lines None =
    let run = run_of (units_with p roots lines) 0 (shown_path asked.root) asked.most (events_from (length p) readings lines) in
    by_end (has_readings readings lines) run.machine.trace run.ends

by_refused : (asked : Asked) (readings : List ℕ) (p : Program) (roots : Roots) (lines : List ScriptLine) (n : Option ℕ)
    → EndsSo (unless_refused asked readings p roots lines n)
by_refused asked readings p roots lines (Some n) = script_so asked.script n false
by_refused asked readings p roots lines None = by_later asked readings p roots lines (first_line (is_of_later asked.built) lines)

by_script : (asked : Asked) (readings : List ℕ) (p : Program) (roots : Roots) (read : ScriptRead) → EndsSo (with_script asked readings p roots read)
by_script asked readings p roots (refused_at n) = script_so asked.script n false
by_script asked readings p roots (has_lines lines) = by_refused asked readings p roots lines (first_line (is_refused p roots 0) lines)

same : (a b : Output) → a ≡ b → EndsSo b → EndsSo a
same a b e h = subst (λ (o : Output). EndsSo o) (sym e) h

by_stage : (late : Bool) (asked : Asked) (readings : List ℕ) (files : Folder) (p : Program) (roots : Roots) (output : Output)
    → IsUnlessLater late asked readings files p roots output → EndsSo output
by_stage true asked readings files p roots output h =
    same output (not_built asked.root) h (document_so asked.root (record { at = start_of_file; cause = cause.NotYet }))
by_stage false asked readings files p roots output h = same output (with_script asked readings p roots h.read) h.is (by_script asked readings p roots h.read)

by_loading : (asked : Asked) (readings : List ℕ) (files : Folder) (sources : Sources) (loaded : Loading) (output : Output)
    → IsByLoading asked readings files sources loaded output → EndsSo output
by_loading asked readings files sources (refuses path f) output h = same output (refused_document path f) h (document_so path f)
by_loading asked readings files sources (loads known order) output h =
    let p = program_of sources known in
    by_stage (is_later asked.built p (roots_of p)) asked readings files p (roots_of p) output h
by_loading asked readings files sources unending output h = absurd h

pub ends_so : (asked : Asked) (files : Folder) (readings : List ℕ) (output : Output) → IsOutput asked files readings output → EndsSo output
ends_so asked files readings output h = by_loading asked readings files h.sources (loading h.sources [] h.most asked.root) output h.is
