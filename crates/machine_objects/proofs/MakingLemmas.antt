-- A making up to what is delivered.
use Rattle.std.proofs.Common.{◌≡◌, ◌∙◌, ap, sym, refl, ℕ, suc, ◌-◌, Bool, true, false, List, [], ◌∷◌, ◌++◌, map, length, None, Err, arith}
use Rattle.qml_base.specs.declared.numbers.ObjNo.{ObjNo}
use Rattle.qml_base.specs.declared.numbers.CellNo.{CellNo}
use Rattle.instance_plans.specs.declared.planned.Planned.{Planned}
use Rattle.instance_plans.specs.Numbers.{object_no}
use Rattle.instance_plans.specs.Cells.{MadeObject}
use Rattle.instance_plans.specs.Plans as plans
use Rattle.instance_contents.specs.Making.{looks_of}
use Rattle.machine_model.specs.State.{Machine}
use Rattle.machine_model.specs.declared.stop.Stop.{Stop}
use Rattle.machine_model.specs.Acts.{Ran, goes, stops, then_go, ◌>>◌, each, by_test, nothing}
use Rattle.machine_model.specs.Emission.{Below, emit_change, deliver_unless}
use Rattle.machine_model.specs.Making.{made, by_plan, start, complete, start_of, numbered_from, add_told, alone_written, make_alone}
use Rattle.machine_making.specs.Adding.{starting, if_starts}
use Rattle.machine_steps.specs.declared.fault.Fault.{Fault}
use Rattle.machine_steps.specs.declared.fault.Fault.TheVariants as fault
use Rattle.machine_steps.specs.Giving.{Fails}
use Rattle.machine_state.specs.declared.state.State.{State}
use Rattle.machine_state.specs.Keeping.{machine_of}
use Rattle.machine_writes.specs.Writes.{settle_older}
use Rattle.machine_objects.specs.declared.making.Made.{Made}
use Rattle.machine_objects.specs.Adding.{alone_instance, IsMade, AddsAlone}
use Rattle.machine_objects.specs.Making.{start_one, complete_one, counted, left_of}

then_same : {A B : Type 0} (r : Ran A) (f g : A → Machine → Ran B) → ((a : A) (m : Machine) → f a m ≡ g a m) → then_go r f ≡ then_go r g
then_same (goes a m) f g h = h a m
then_same (stops s m) f g h = refl

starts_same : (below : Below) (n : ℕ) (xs : List MadeObject) (m : Machine) → each (start below) (numbered_from n xs) m ≡ each (start_one below) (starting n (map looks_of xs)) m
starts_same below n [] m = refl
starts_same below n (x ∷ xs) m = by_start x.starts (starts_same below (suc n) xs)
  where
    by_start : (b : Bool) → ((m : Machine) → each (start below) (numbered_from (suc n) xs) m ≡ each (start_one below) (starting (suc n) (map looks_of xs)) m)
        → then_go (by_test b (deliver_unless below (object_no n) (start_of (object_no n))) nothing m) (λ _. each (start below) (numbered_from (suc n) xs))
        ≡ each (start_one below) (if_starts b (object_no n) ++ starting (suc n) (map looks_of xs)) m
    by_start true rest = then_same (start_one below (object_no n) m) _ _ (λ a k. rest k)
    by_start false rest = rest m

completions_same : (below : Below) (n : ℕ) (xs : List MadeObject) (m : Machine) → each (complete below) (numbered_from n xs) m ≡ each (complete_one below) (counted n (length xs)) m
completions_same below n [] m = refl
completions_same below n (x ∷ xs) m = then_same (complete_one below (object_no n) m) _ _ (λ a k. completions_same below (suc n) xs k)

-- once all is added, and has settled
pub goes_on : (below : Below) (planned : List Planned) (i : plans.Instance) (given : ℕ) (m added new : Machine) (cells : List CellNo)
    → add_told None planned i given m ≡ goes tt added → settle_older below given added ≡ each (emit_change below) cells new
    → made below None planned i given m
    ≡ (each (emit_change below) cells >> each (start_one below) (starting (suc given) (map looks_of i.objects)) >> each (complete_one below) (counted (suc given) (length i.objects))) new
goes_on below planned i given m added new cells e f =
    let all = numbered_from (suc given) i.objects in
    ap (λ r. then_go (then_go (then_go r (λ _. settle_older below given)) (λ _. each (start below) all)) (λ _. each (complete below) all)) e
    ∙ ap (λ r. then_go (then_go r (λ _. each (start below) all)) (λ _. each (complete below) all)) f
    ∙ ap (λ r. then_go r (λ _. each (complete below) all)) (then_same (each (emit_change below) cells new) _ _ (λ a k. starts_same below (suc given) i.objects k))
    ∙ then_same _ _ _ (λ a k. completions_same below (suc given) i.objects k)

stops_so : (below : Below) (planned : List Planned) (i : plans.Instance) (given : ℕ) (m added new : Machine) (s : Stop)
    → add_told None planned i given m ≡ goes tt added → settle_older below given added ≡ stops s new
    → made below None planned i given m ≡ stops s new
stops_so below planned i given m added new s e f =
    let all = numbered_from (suc given) i.objects in
    ap (λ r. then_go (then_go (then_go r (λ _. settle_older below given)) (λ _. each (start below) all)) (λ _. each (complete below) all)) e
    ∙ ap (λ r. then_go (then_go r (λ _. each (start below) all)) (λ _. each (complete below) all)) f

-- ---- the whole

pub made_alone : (below : Below) (u o : ℕ) (old mid : State) (new : Machine) (made : Made) (cells : List CellNo) (starts : List ObjNo)
    → IsMade u o old mid [] starts
    → settle_older below old.tree.given (machine_of mid) ≡ each (emit_change below) cells new
    → made.changed.items ≡ cells → made.starting.items ≡ starts → made.before ≡ old.tree.given → made.now ≡ mid.tree.given
    → make_alone below u o (machine_of old) (machine_of old) ≡ left_of below made new
made_alone below u o old mid new made cells starts h f e1 e2 e3 e4 =
    let m = machine_of old in
    let i = alone_instance u o m in
    let many : length i.objects ≡ made.now - made.before = let g = h.given in omega arith in
    let from : suc old.tree.given ≡ suc made.before = ap suc (sym e3) in
    ap (λ r. by_plan below None (alone_written u o m) m.given r m) h.planned
    ∙ goes_on below (alone_written u o m) i old.tree.given m (machine_of mid) new cells h.added f
    ∙ ap (λ cs. (each (emit_change below) cs >> each (start_one below) (starting (suc old.tree.given) (map looks_of i.objects)) >> each (complete_one below) (counted (suc old.tree.given) (length i.objects))) new) (sym e1)
    ∙ ap (λ ss. (each (emit_change below) made.changed.items >> each (start_one below) ss >> each (complete_one below) (counted (suc old.tree.given) (length i.objects))) new) (sym h.starts ∙ sym e2)
    ∙ ap (λ n. (each (emit_change below) made.changed.items >> each (start_one below) made.starting.items >> each (complete_one below) (counted n (length i.objects))) new) from
    ∙ ap (λ n. (each (emit_change below) made.changed.items >> each (start_one below) made.starting.items >> each (complete_one below) (counted (suc made.before) n)) new) many

pub unsettled : (below : Below) (u o : ℕ) (old mid : State) (new : Machine) (f : Fault) (before starts : List ObjNo)
    → IsMade u o old mid before starts → Fails f new (settle_older below old.tree.given (machine_of mid))
    → Fails f new (make_alone below u o (machine_of old) (machine_of old))
unsettled below u o old mid new fault.NoMemory before starts h e = tt
unsettled below u o old mid new (fault.Stopped s) before starts h e =
    let m = machine_of old in
    ap (λ r. by_plan below None (alone_written u o m) m.given r m) h.planned
    ∙ stops_so below (alone_written u o m) (alone_instance u o m) old.tree.given m (machine_of mid) new s h.added e

pub refused : (below : Below) (u o : ℕ) (old new : State) (f : Fault) (before starts : List ObjNo) → AddsAlone u o old (Err f) new before starts
    → Fails f (machine_of new) (make_alone below u o (machine_of old) (machine_of old))
refused below u o old new fault.NoMemory before starts h = tt
refused below u o old new (fault.Stopped s) before starts (is, none, same) =
    let m = machine_of old in
    ap (λ r. by_plan below None (alone_written u o m) m.given r m) none
    ∙ ap (λ x. stops x m) (sym is)
    ∙ ap (stops s) (sym same)
