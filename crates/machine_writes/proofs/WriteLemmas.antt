-- A settling that is told, and a write.
use Rattle.std.proofs.Common.{◌≡◌, ◌∙◌, ap, sym, subst, ℕ, nat_le, Vec, Global, List, Result, Ok, Err}
use Rattle.std.specs.List.{filter}
use Rattle.qml_base.specs.declared.numbers.CellNo.{CellNo}
use Rattle.tree_model.specs.declared.cells.Content.{Content}
use Rattle.tree_model.specs.declared.cells.Report.{Report}
use Rattle.tree_settling.specs.declared.settling.Changed.{Changed}
use Rattle.trace_print.specs.declared.entry.Entry.{Entry}
use Rattle.live_tree.specs.Live.{Live}
use Rattle.machine_model.specs.State.{Machine}
use Rattle.machine_model.specs.Acts.{goes, then_go, each}
use Rattle.machine_model.specs.Showing.{tell_settled}
use Rattle.machine_model.specs.Emission.{Below, put, settle, after_settling, settle_and_emit, write, emit_change}
use Rattle.machine_model.specs.Making.{older_after, tell_older}
use Rattle.machine_steps.specs.declared.fault.Fault.{Fault}
use Rattle.machine_steps.specs.declared.fault.Fault.TheVariants as fault
use Rattle.machine_steps.specs.Giving.{Fails}
use Rattle.machine_steps.specs.Settles.{settled_from}
use Rattle.machine_state.specs.Leading.{Leads}
use Rattle.machine_writes.proofs.PutLemmas.{same_machine}
use Rattle.machine_writes.specs.Writes.{emitted, settle_older}

-- where it settles, and that is told
pub settled_on : (m : Machine) (live : Live) (c : Changed) (told : List Entry) (below : Below)
    → settle m ≡ goes (settled_from live c) (record m { tree = live.tree })
    → tell_settled (settled_from live c) (record m { tree = live.tree }) ≡ goes tt (record m { tree = live.tree; trace = told })
    → live.given ≡ m.given → live.known ≡ m.known
    → settle_and_emit below m ≡ emitted below c (record m { tree = live.tree; given = live.given; known = live.known; trace = told })
settled_on m live c told below e f given known =
    ap (λ r. then_go r (after_settling below)) e
    ∙ ap (λ r. then_go r (λ _. each (emit_change below) c.cells.items)) f
    ∙ ap (emitted below c) (same_machine m live told given known)

-- where it doesn't
still_fails : (m : Machine) (live : Live) (f : Fault) → Fails f (record m { tree = live.tree }) (settle m) → live.given ≡ m.given → live.known ≡ m.known
    → Fails f (record m { tree = live.tree; given = live.given; known = live.known }) (settle m)
still_fails m live f h given known = subst (λ n. Fails f n (settle m)) (same_machine m live m.trace given known) h

off : (m n : Machine) (f : Fault) (below : Below) → Fails f n (settle m) → Fails f n (settle_and_emit below m)
off m n fault.NoMemory below h = tt
off m n (fault.Stopped s) below h = ap (λ r. then_go r (after_settling below)) h

pub settled_off : (m : Machine) (live : Live) (f : Fault) (below : Below) → Fails f (record m { tree = live.tree }) (settle m) → live.given ≡ m.given → live.known ≡ m.known
    → Fails f (record m { tree = live.tree; given = live.given; known = live.known }) (settle_and_emit below m)
settled_off m live f below h given known = off m (record m { tree = live.tree; given = live.given; known = live.known }) f below (still_fails m live f h given known)

-- once the contents are put
pub written_on : (m n new : Machine) (contents : List (CellNo × Content)) (below : Below) (result : Result Changed Fault)
    → each put contents m ≡ goes tt n → Leads (settle_and_emit below n) result (emitted below) new → Leads (write below contents m) result (emitted below) new
written_on m n new contents below (Ok c) e h = ap (λ r. then_go r (λ _. settle_and_emit below)) e ∙ h
written_on m n new contents below (Err fault.NoMemory) e h = tt
written_on m n new contents below (Err (fault.Stopped s)) e h = ap (λ r. then_go r (λ _. settle_and_emit below)) e ∙ h

-- ---- with the changes of older objects alone

pub settled_older : (m : Machine) (live : Live) (all c : Changed) (given : ℕ) (told : List Entry) (below : Below)
    → settle m ≡ goes (settled_from live all) (record m { tree = live.tree })
    → c.cells.items ≡ filter (λ (x : CellNo). nat_le x.object.0 given) all.cells.items → c.reports ≡ all.reports
    → tell_settled (settled_from live c) (record m { tree = live.tree }) ≡ goes tt (record m { tree = live.tree; trace = told })
    → live.given ≡ m.given → live.known ≡ m.known
    → settle_older below given m ≡ emitted below c (record m { tree = live.tree; given = live.given; known = live.known; trace = told })
settled_older m live all c given told below e cells reports f g k =
    ap (λ r. then_go r (older_after below given)) e
    ∙ ap (λ cs. tell_older below (record { cells = live.tree.cells; changed = cs; reports = all.reports.items }) (record m { tree = live.tree })) (sym cells)
    ∙ ap (λ (rs : Vec Report Global). tell_older below (record { cells = live.tree.cells; changed = c.cells.items; reports = rs.items }) (record m { tree = live.tree })) (sym reports)
    ∙ ap (λ r. then_go r (λ _. each (emit_change below) c.cells.items)) f
    ∙ ap (emitted below c) (same_machine m live told g k)

older_off : (m n : Machine) (f : Fault) (given : ℕ) (below : Below) → Fails f n (settle m) → Fails f n (settle_older below given m)
older_off m n fault.NoMemory given below h = tt
older_off m n (fault.Stopped s) given below h = ap (λ r. then_go r (older_after below given)) h

pub settled_older_off : (m : Machine) (live : Live) (f : Fault) (given : ℕ) (below : Below) → Fails f (record m { tree = live.tree }) (settle m) → live.given ≡ m.given → live.known ≡ m.known
    → Fails f (record m { tree = live.tree; given = live.given; known = live.known }) (settle_older below given m)
settled_older_off m live f given below h g k = older_off m (record m { tree = live.tree; given = live.given; known = live.known }) f given below (still_fails m live f h g k)
