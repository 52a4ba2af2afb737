-- What was loaded stays, whatever is made.
use Rattle.std.proofs.Common.{◌≡◌, ◌∙◌, ap, sym, refl, ℕ, suc, ◌-◌, Bool, true, false, List, [], None, Option, Result, Ok, Err}
use Rattle.qml_base.specs.declared.numbers.ObjNo.{ObjNo}
use Rattle.instance_plans.specs.declared.planned.Planned.{Planned}
use Rattle.instance_plans.specs.Cells.{MadeObject}
use Rattle.instance_plans.specs.Plans.{Instance, PlanFault, by_field, full}
use Rattle.machine_model.specs.State.{Machine, completed}
use Rattle.machine_model.specs.Acts.{Ran, then_go, nothing, by_test, each, ◌>>=◌, ◌>>◌}
use Rattle.machine_model.specs.Settling.{Settled}
use Rattle.machine_model.specs.Showing.{tell_settled}
use Rattle.machine_model.specs.Emission.{Below, settle, deliver_unless, emit_change}
use Rattle.machine_model.specs.Making.{with_instance, numbered_from, tell_made, older, add_told, alone_written, alone_planned, start_of, tell_older, older_after, start, complete, made, by_plan, make_alone}
use Rattle.machine_objects.specs.declared.making.Made.{Made}
use Rattle.machine_objects.specs.Making.{start_one, complete_one, counted, left_of}
use Rattle.machine_effects.proofs.UnitsLemmas.{units_of, Keeps, none_below, then_keeps, each_keeps, delivered, emit_keeps, changes_keep, told, settles}

adds : (planned : List Planned) (i : Instance) (given : ℕ) → Keeps (add_told None planned i given)
adds planned i given m = each_keeps tell_made (λ x k. refl) (numbered_from (suc given) i.objects) (with_instance None planned i m)

tells_older : (given : ℕ) (s : Settled) → Keeps (older_after none_below given s)
tells_older given s m =
    let o = older given s in
    then_keeps (tell_settled o m) (λ _. each (emit_change none_below) o.changed) m.units (told o m) (λ _. changes_keep o.changed)

settles_older : (given : ℕ) → Keeps (settle >>= older_after none_below given)
settles_older given m = then_keeps (settle m) (older_after none_below given) m.units (settles m) (tells_older given)

starts_one : (x : ObjNo × MadeObject) → Keeps (start none_below x)
starts_one x m = by_case (x.1).starts
  where
    by_case : (b : Bool) → units_of (by_test b (deliver_unless none_below (x.0) (start_of (x.0))) nothing m) ≡ m.units
    by_case true = delivered (x.0) (start_of (x.0)) m
    by_case false = refl

makes : (planned : List Planned) (i : Instance) (given : ℕ) → Keeps (made none_below None planned i given)
makes planned i given m =
    let all = numbered_from (suc given) i.objects in
    then_keeps ((add_told None planned i given >> (settle >>= older_after none_below given) >> each (start none_below) all) m) (λ _. each (complete none_below) all) m.units
    (then_keeps ((add_told None planned i given >> (settle >>= older_after none_below given)) m) (λ _. each (start none_below) all) m.units
    (then_keeps (add_told None planned i given m) (λ _. settle >>= older_after none_below given) m.units (adds planned i given m) (λ _. settles_older given))
    (λ _. each_keeps (start none_below) starts_one all))
    (λ _. each_keeps (complete none_below) (λ x. emit_keeps (x.0) completed []) all)

by_any_plan : (planned : List Planned) (given : ℕ) (p : Result Instance PlanFault) → Keeps (by_plan none_below None planned given p)
by_any_plan planned given (Ok i) m = makes planned i given m
by_any_plan planned given (Err (by_field fault)) m = refl
by_any_plan planned given (Err full) m = refl

leaves : (x : Made) → Keeps (left_of none_below x)
leaves x m =
    then_keeps ((each (emit_change none_below) x.changed.items >> each (start_one none_below) x.starting.items) m)
    (λ _. each (complete_one none_below) (counted (suc x.before) (x.now - x.before))) m.units
    (then_keeps (each (emit_change none_below) x.changed.items m) (λ _. each (start_one none_below) x.starting.items) m.units (changes_keep x.changed.items m)
    (λ _. each_keeps (start_one none_below) (λ o. delivered o (start_of o)) x.starting.items))
    (λ _. each_keeps (complete_one none_below) (λ o. emit_keeps o completed []) (counted (suc x.before) (x.now - x.before)))

pub kept_by_making : (u o : ℕ) (m n : Machine) (x : Made) → ((below : Below) → make_alone below u o m m ≡ left_of below x n) → n.units ≡ m.units
kept_by_making u o m n x h =
    sym (leaves x n) ∙ ap units_of (sym (h none_below)) ∙ by_any_plan (alone_written u o m) m.given (alone_planned u o m) m
