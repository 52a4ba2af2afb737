-- The entries of a settling.
use Rattle.std.specs.Prelude.{◌≡◌, List, [], ◌∷◌, ◌++◌, Option, Some, None}
use Rattle.std.specs.Option.{option_map}
use Rattle.qml_base.specs.declared.numbers.CellNo.{CellNo}
use Rattle.tree_model.specs.declared.cells.Report.{Report}
use Rattle.tree_model.specs.Settling.{place_of, held_at}
use Rattle.tree_settling.specs.declared.settling.Changed.{Changed}
use Rattle.trace_print.specs.declared.entry.Entry.{Entry}
use Rattle.trace_print.specs.declared.entry.Entry.TheVariants as entry
use Rattle.live_tree.specs.Live.{Live}
use Rattle.machine_model.specs.State.{Machine}
use Rattle.machine_model.specs.Acts.{goes}
use Rattle.machine_model.specs.Showing.{named_cell, report_entry, tell_settled}
use Rattle.machine_steps.specs.Settles.{settled_from}

-- that a cell holds another value; of a hidden one nothing is told
abbrev pub change_of : Live → CellNo → Option Entry
change_of live c = option_map (λ n. entry.Change n (held_at live.tree.cells (place_of live.tree.cells c))) (named_cell live.known c)

abbrev pub onto : Option Entry → List Entry → List Entry
onto None rest = rest
onto (Some e) rest = e ∷ rest

abbrev pub changes_of : Live → List CellNo → List Entry
changes_of live [] = []
changes_of live (c ∷ cs) = onto (change_of live c) (changes_of live cs)

abbrev pub reports_of : Live → List Report → List Entry
reports_of live [] = []
reports_of live (r ∷ rs) = report_entry live.known r.cell r.cause ∷ reports_of live rs

-- changes, and then reports
abbrev pub entries_of : Live → Changed → List Entry
entries_of live c = changes_of live c.cells.items ++ reports_of live c.reports.items

-- of each machine with this tree and these names, and with this trace before, that is what telling the settling does
pub record Holds (m : Machine) (live : Live) (trace : List Entry) : Type 0 where
  pub tree : m.tree ≡ live.tree
  pub known : m.known ≡ live.known
  pub trace_so : m.trace ≡ trace

abbrev pub TellsSettled : Machine → Live → Changed → List Entry → List Entry → Type 0
TellsSettled m live c old new = Holds m live old → tell_settled (settled_from live c) m ≡ goes tt (record m { trace = new })
