-- The line of each entry of the trace.
use Rattle.std.specs.Prelude.{ℕ, if◌then◌else◌, List, [], ◌∷◌, ◌++◌, codes, Option, Some, None}
use Rattle.std.specs.Fmt.{decimal}
use Rattle.std.specs.Char.Utf16.{utf16_lossy_chars}
use Rattle.std.specs.Str.{encode_utf8_all}
use Rattle.qml_base.specs.declared.load_cause.LoadCause.{LoadCause}
use Rattle.qml_base.specs.declared.numbers.Place.{Place}
use Rattle.qml_text.specs.Parts.{join_of}
use Rattle.trace_print.specs.declared.entry.Entry.{Entry}
use Rattle.trace_print.specs.declared.entry.Entry.TheVariants as entry
use Rattle.trace_print.specs.Shown.{shown, shown_object, shown_cell, shown_site, shown_place, shown_cause, shown_load_cause}

-- why a file isn't loaded: its name, the place and the cause
abbrev pub shown_fault : List ℕ → Place → LoadCause → List ℕ
shown_fault file place cause = file ++ codes " " ++ shown_place place ++ codes " " ++ shown_load_cause cause

-- at which delivery the nesting was too deep
abbrev pub shown_delivery : Option (List ℕ) → List ℕ
shown_delivery None = codes "react"
shown_delivery (Some handler) = handler

-- two numbers, each behind its word
unfoldable pub shown_counts : List ℕ → ℕ → List ℕ → ℕ → List ℕ
shown_counts word number next count = word ++ decimal number ++ next ++ decimal count

abbrev pub shown_stats : ℕ → ℕ → ℕ → ℕ → List ℕ
shown_stats objects events turns reports =
    shown_counts (codes "stats objects ") objects (codes " events ") events ++ shown_counts (codes " turns ") turns (codes " reports ") reports

abbrev pub shown_entry : Entry → List ℕ
shown_entry (entry.Line line) = codes "> " ++ line
shown_entry (entry.Make o line) = codes "make " ++ shown_object o ++ codes " " ++ line
shown_entry (entry.Condemn o) = codes "condemn " ++ shown_object o
shown_entry (entry.Gone o) = codes "gone " ++ shown_object o
shown_entry (entry.Change cell value) = codes "change " ++ shown_cell cell ++ codes " " ++ shown value
shown_entry (entry.React o what) = codes "react " ++ shown_object o ++ codes " " ++ what
shown_entry (entry.Call o handler) = codes "call " ++ shown_object o ++ codes " " ++ handler
shown_entry (entry.Fire o due) = codes "fire " ++ shown_object o ++ codes " at " ++ decimal due
shown_entry (entry.Log texts) = codes "log " ++ join_of (codes " ") texts
shown_entry (entry.LoopReport cell) = codes "report loop " ++ shown_cell cell
shown_entry (entry.ThrewReport site cause) = codes "report threw " ++ shown_site site ++ codes " " ++ shown_cause cause
shown_entry (entry.HostReport o taken) = codes "report host " ++ shown_object o ++ codes " " ++ (if taken then codes "taken" else codes "missing")
shown_entry (entry.LoadReport o file place cause) = codes "report load " ++ shown_object o ++ codes " " ++ shown_fault file place cause
shown_entry (entry.PrintPath path value) = codes "print " ++ path ++ codes " " ++ shown value
shown_entry (entry.PrintCell cell value) = shown_cell cell ++ codes " " ++ shown value
shown_entry (entry.StopPast site) = codes "stop past " ++ shown_site site
shown_entry (entry.StopNesting o handler) = codes "stop nesting " ++ shown_object o ++ codes " " ++ shown_delivery handler
shown_entry (entry.StopTurns n) = codes "stop turns " ++ decimal n
shown_entry (entry.StopObjects n) = codes "stop objects " ++ decimal n
shown_entry (entry.RefusedDocument file place cause) = codes "refused " ++ shown_fault file place cause
shown_entry (entry.RefusedScript file line not_yet) = codes "refused " ++ file ++ codes " " ++ decimal line ++ (if not_yet then codes " NotYet" else [])
shown_entry (entry.ReadFailed file) = codes "read failed " ++ file
shown_entry (entry.Stats objects events turns reports) = shown_stats objects events turns reports
shown_entry (entry.End status) = codes "end " ++ decimal status

-- the bytes of an entry: its line in UTF-8, a lone surrogate as U+FFFD, with a line end
abbrev pub entry_bytes : Entry → List ℕ
entry_bytes e = encode_utf8_all (utf16_lossy_chars (shown_entry e ++ 10 ∷ []))
