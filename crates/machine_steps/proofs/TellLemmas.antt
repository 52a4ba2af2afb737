-- Telling a settling puts its entries behind the trace.
use Rattle.std.proofs.Common.{◌≡◌, ◌∙◌, ap, sym, refl, List, [], ◌∷◌, ◌++◌, append_assoc, append-nil}
use Rattle.std.specs.declared.option.Option.{Option}
use Rattle.std.specs.declared.option.Option.TheVariants.{None, Some}
use Rattle.qml_base.specs.declared.numbers.CellNo.{CellNo}
use Rattle.tree_model.specs.declared.cells.Report.{Report}
use Rattle.tree_settling.specs.declared.settling.Changed.{Changed}
use Rattle.trace_print.specs.declared.entry.Entry.{Entry}
use Rattle.live_tree.specs.Live.{Live}
use Rattle.machine_model.specs.State.{Machine}
use Rattle.machine_model.specs.Acts.{goes, then_go, each, if_some, tell}
use Rattle.machine_model.specs.Showing.{change_told, tell_change, report_entry, tell_report, tell_settled}
use Rattle.machine_steps.specs.Settles.{settled_from}
use Rattle.machine_steps.specs.Telling.{change_of, onto, changes_of, reports_of, entries_of, Holds}

abbrev with_trace : Machine → List Entry → Machine
with_trace m es = record m { trace = es }

-- a machine with this tree and these names
pub record HoldsTree (m : Machine) (live : Live) : Type 0 where
  pub tree : m.tree ≡ live.tree
  pub known : m.known ≡ live.known

same_change : (m : Machine) (live : Live) (c : CellNo) → HoldsTree m live → change_told m c ≡ change_of live c
same_change m live c h =
    ap (λ t. change_told (record m { tree = t }) c) h.tree ∙ ap (λ k. change_told (record m { tree = live.tree; known = k }) c) h.known

-- one, if there is one
one_told : (m : Machine) (o : Option Entry) → if_some o tell m ≡ goes tt (with_trace m (m.trace ++ onto o []))
one_told m None = ap (λ es. goes tt (with_trace m es)) (sym (append-nil m.trace))
one_told m (Some e) = refl

onto_front : (o : Option Entry) (rest : List Entry) → onto o [] ++ rest ≡ onto o rest
onto_front None rest = refl
onto_front (Some e) rest = refl

changes_told : (live : Live) (cs : List CellNo) (m : Machine) → HoldsTree m live → each tell_change cs m ≡ goes tt (with_trace m (m.trace ++ changes_of live cs))
changes_told live [] m h = ap (λ es. goes tt (with_trace m es)) (sym (append-nil m.trace))
changes_told live (c ∷ cs) m h =
    let next = with_trace m (m.trace ++ onto (change_of live c) []) in
    ap (λ r. then_go r (λ u. each tell_change cs)) (ap (λ o. if_some o tell m) (same_change m live c h) ∙ one_told m (change_of live c)) ∙
    changes_told live cs next (record { tree = h.tree; known = h.known }) ∙
    ap (λ es. goes tt (with_trace m es)) (append_assoc m.trace (onto (change_of live c) []) (changes_of live cs) ∙ ap (λ es. m.trace ++ es) (onto_front (change_of live c) (changes_of live cs)))

reports_told : (live : Live) (rs : List Report) (m : Machine) → HoldsTree m live → each tell_report rs m ≡ goes tt (with_trace m (m.trace ++ reports_of live rs))
reports_told live [] m h = ap (λ es. goes tt (with_trace m es)) (sym (append-nil m.trace))
reports_told live (r ∷ rs) m h =
    let next = with_trace m (m.trace ++ report_entry live.known r.cell r.cause ∷ []) in
    ap (λ k. then_go {A = Unit {0}} (goes (tt {0}) (with_trace m (m.trace ++ report_entry k r.cell r.cause ∷ []))) (λ u. each tell_report rs)) h.known ∙
    reports_told live rs next (record { tree = h.tree; known = h.known }) ∙
    ap (λ es. goes tt (with_trace m es)) (append_assoc m.trace (report_entry live.known r.cell r.cause ∷ []) (reports_of live rs))

all_told : (live : Live) (c : Changed) (m : Machine) → HoldsTree m live → tell_settled (settled_from live c) m ≡ goes tt (with_trace m (m.trace ++ entries_of live c))
all_told live c m h =
    ap (λ r. then_go r (λ u. each tell_report c.reports.items)) (changes_told live c.cells.items m h) ∙
    reports_told live c.reports.items (with_trace m (m.trace ++ changes_of live c.cells.items)) (record { tree = h.tree; known = h.known }) ∙
    ap (λ es. goes tt (with_trace m es)) (append_assoc m.trace (changes_of live c.cells.items) (reports_of live c.reports.items))

pub tells_so : (m : Machine) (live : Live) (c : Changed) (old mid new : List Entry) → mid ≡ old ++ changes_of live c.cells.items → new ≡ mid ++ reports_of live c.reports.items →
    Holds m live old → tell_settled (settled_from live c) m ≡ goes tt (record m { trace = new })
tells_so m live c old mid new e f h =
    all_told live c m (record { tree = h.tree; known = h.known }) ∙
    ap (λ es. goes tt (with_trace m es)) (ap (λ es. es ++ entries_of live c) h.trace_so ∙ sym (append_assoc old (changes_of live c.cells.items) (reports_of live c.reports.items)) ∙
    ap (λ es. es ++ reports_of live c.reports.items) (sym e) ∙ sym f)
