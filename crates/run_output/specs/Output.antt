-- What the program writes, and how it ends.
use Rattle.std.specs.Prelude.{◌≡◌, ℕ, Bool, true, false, if◌then◌else◌, List, [], ◌∷◌, ◌++◌, Option, Some, None}
use Rattle.std.specs.List.{list_any, flat_map}
use Rattle.std.specs.Str.{chars}
use Rattle.qml_base.specs.declared.load_cause.LoadCause.TheVariants as cause
use Rattle.qml_text.specs.Utf.{encode_utf16_all}
use Rattle.qml_syntax.specs.Tree.{Units}
use Rattle.program_names.specs.Paths.{Path}
use Rattle.program_names.specs.declared.fault.Fault.{Fault}
use Rattle.program_names.specs.Reading.{start_of_file}
use Rattle.trace_print.specs.declared.entry.Entry.{Entry}
use Rattle.trace_print.specs.declared.entry.Entry.TheVariants as entry
use Rattle.trace_print.specs.Entries.{entry_bytes}
use Rattle.machine_model.specs.Runs.{Run, RunEnd, whole, stopped, cut_off}

-- the script came to its end, without a report or with one; the run was stopped; the document or the script was refused
pub data Ending : Type 0 where
  done : Ending
  reported : Ending
  stop : Ending
  document : Ending
  script : Ending

abbrev pub status_of : Ending → ℕ
status_of done = 0
status_of reported = 1
status_of stop = 3
status_of document = 4
status_of script = 5

-- the entries, and how it ends; where answers from outside are wanting it doesn't
pub record Output : Type 0 where
  pub entries : List Entry
  pub ending : Option Ending

abbrev pub end_entry : Ending → Entry
end_entry e = entry.End (status_of e)

-- the last entry tells the status
abbrev pub ended : List Entry → Ending → Output
ended entries e = record { entries = entries ++ end_entry e ∷ []; ending = Some e }

abbrev pub bytes_of : Output → List ℕ
bytes_of o = flat_map entry_bytes o.entries

-- ---- refusals

-- a path is shown as it was handed
abbrev pub shown_path : Path → Units
shown_path path = encode_utf16_all (chars path)

abbrev pub document_entry : Path → Fault → Entry
document_entry path f = entry.RefusedDocument (shown_path path) f.at f.cause

abbrev pub refused_document : Path → Fault → Output
refused_document path f = ended (document_entry path f ∷ []) document

-- a root with a form that isn't built yet
abbrev pub not_built : Path → Output
not_built path = refused_document path (record { at = start_of_file; cause = cause.NotYet })

abbrev pub script_entry : Path → ℕ → Bool → Entry
script_entry path line not_yet = entry.RefusedScript (shown_path path) line not_yet

-- a script is refused at a line, or as a whole at 0
abbrev pub refused_script : Path → ℕ → Bool → Output
refused_script path line not_yet = ended (script_entry path line not_yet ∷ []) script

-- ---- runs

abbrev pub is_report : Entry → Bool
is_report (entry.LoopReport c) = true
is_report (entry.ThrewReport at why) = true
is_report (entry.HostReport o taken) = true
is_report (entry.LoadReport o file at why) = true
is_report e = false

abbrev pub ending_of : List Entry → Ending
ending_of trace = if list_any is_report trace then reported else done

abbrev pub unended : List Entry → Output
unended trace = record { entries = trace; ending = None }

abbrev pub output_by : Bool → List Entry → RunEnd → Output
output_by is_all trace stopped = ended trace stop
output_by is_all trace cut_off = unended trace
output_by true trace whole = ended trace (ending_of trace)
output_by false trace whole = unended trace

-- what a run tells, and whether all answers that its lines take are there
abbrev pub output_of : Bool → Run → Output
output_of is_all run = output_by is_all run.machine.trace run.ends

-- ---- the last entry is that of the ending

pub record TellsEnding (o : Output) (e : Ending) : Type 0 where
  pub front : List Entry
  pub is : o.entries ≡ front ++ end_entry e ∷ []

abbrev pub EndsBy : Output → Option Ending → Type 0
EndsBy o None = Unit {0}
EndsBy o (Some e) = TellsEnding o e

abbrev pub EndsSo : Output → Type 0
EndsSo o = EndsBy o o.ending
