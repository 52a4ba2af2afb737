-- What holds of the machine after an act, and what holds of all that an event does.
use Rattle.std.specs.Prelude.{◌≡◌, ℕ, ◌≤◌, List, ◌++◌}
use Rattle.trace_print.specs.declared.entry.Entry.{Entry}
use Rattle.tree_model.specs.Settling.{Fresh}
use Rattle.machine_model.specs.Texts.{world_of}
use Rattle.machine_model.specs.State.{Machine}
use Rattle.machine_model.specs.Acts.{Ran, goes, stops}
use Rattle.machine_model.specs.Runs.{Run, RunEnd, whole, stopped, cut_off}

-- one fact where it goes on, another where it stops
abbrev pub After : (Machine → Type 0) → (Machine → Type 0) → {A : Type 0} → Ran A → Type 0
After P Q (goes a m) = P m
After P Q (stops s m) = Q m

-- each cell shows what its binding comes to when it is evaluated afresh
abbrev pub IsFresh : Machine → Type 0
IsFresh m = Fresh (world_of m.units m.known) m.tree

abbrev pub Any : Machine → Type 0
Any m = Unit {0}

abbrev pub FreshAfter : {A : Type 0} → Ran A → Type 0
FreshAfter r = After IsFresh Any r

abbrev pub FreshAt : Machine → RunEnd → Type 0
FreshAt m whole = IsFresh m
FreshAt m stopped = Unit {0}
FreshAt m cut_off = Unit {0}

abbrev pub FreshAtEnd : Run → Type 0
FreshAtEnd r = FreshAt r.machine r.ends

-- no more turns are left than these
abbrev pub AtMost : ℕ → Machine → Type 0
AtMost most m = m.turns ≤ most

-- the trace begins with these entries
abbrev pub Begins : List Entry → Machine → Type 0
Begins front m = (rest : List Entry) × (m.trace ≡ front ++ rest)
