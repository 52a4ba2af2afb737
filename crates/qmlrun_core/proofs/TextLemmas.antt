-- Bytes that were told before a part of the run.
use Rattle.std.proofs.Common.{◌≡◌, ◌∙◌, ap, sym, ℕ, List, [], ◌∷◌, ◌++◌, append_assoc, codes}
use Rattle.std.proofs.lemmas.Grind.{flat_map-append}
use Rattle.qml_model.specs.declared.content.Content.{Content}
use Rattle.qml_model.specs.declared.text.ScriptLine.{ScriptLine}
use Rattle.qml_model.specs.Machine.{Output, after, settled_run, made, run_of}
use Rattle.qml_model.specs.Trace as entry
use Rattle.qml_model.specs.Trace.{Entry, entry_bytes, trace_bytes}
use Rattle.qmlrun_core.specs.Steps.{with_output}

-- entries that were told stand behind the earlier bytes
told_after : (bytes : List ℕ) (entries : List Entry) (o : Output) → with_output bytes (after entries o) ≡ with_output (bytes ++ trace_bytes entries) o
told_after bytes entries o =
    ap (λ (bs : List ℕ). record { bytes = bs; ending = o.ending })
    (ap (λ (bs : List ℕ). bytes ++ bs) (flat_map-append entry_bytes entries o.entries) ∙ sym (append_assoc bytes (trace_bytes entries) (trace_bytes o.entries)))

-- the opening was told, and the settling follows
pub run_told : (bytes opened root : List ℕ) (names : List (List ℕ)) (contents : List Content) (lines : List ScriptLine) → opened ≡ bytes ++ trace_bytes (entry.line (codes "open " ++ root) ∷ entry.make ∷ [])
    → with_output bytes (run_of root names contents lines) ≡ with_output opened (settled_run names (made contents) lines)
unfolding run_of
run_told bytes opened root names contents lines e =
    told_after bytes (entry.line (codes "open " ++ root) ∷ entry.make ∷ []) (settled_run names (made contents) lines)
    ∙ ap (λ (bs : List ℕ). with_output bs (settled_run names (made contents) lines)) (sym e)
