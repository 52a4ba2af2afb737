-- What was planned is added.
use Rattle.std.proofs.Common.{◌≡◌, ◌∙◌, ap, sym, subst, refl, ℕ, suc, ◌+◌, ◌≤◌, ◌<◌, inl, inr, List, [], ◌∷◌, ◌++◌, map, Some, None, Result, Ok, Err, OnOk, arith}
use Rattle.std.proofs.lemmas.List.{length-map}
use Rattle.qml_base.specs.declared.numbers.ObjNo.{ObjNo}
use Rattle.qml_base.specs.declared.memory.NoMemory.{NoMemory}
use Rattle.qml_value.specs.declared.value.Value.{Value}
use Rattle.qml_scope.specs.Shapes.{Known}
use Rattle.unit_rows.specs.Seen.{all_seen}
use Rattle.instance_plans.specs.declared.planned.Planned.{Planned}
use Rattle.instance_plans.specs.Numbers.{AllRows, Plan}
use Rattle.instance_plans.specs.Contents.{GivenCell, all_given}
use Rattle.instance_plans.specs.Cells.{made_object}
use Rattle.instance_plans.specs.Plans as plans
use Rattle.instancing.specs.Numbered.{IsOwned, AreNumbered, AreOwned}
use Rattle.instance_contents.specs.Making.{looks_of}
use Rattle.instance_contents.specs.Objects.{looks}
use Rattle.object_plans.specs.declared.planning.Instance.{Instance}
use Rattle.object_plans.specs.Planning.{plan_of_order}
use Rattle.machine_model.specs.State.{Machine}
use Rattle.machine_model.specs.Acts.{goes}
use Rattle.machine_model.specs.Making.{add_told}
use Rattle.machine_making.specs.Adding.{OwnedBefore, AddsAll, TellsObjects}
use Rattle.machine_making.specs.Makes.{machine_with}
use Rattle.machine_making.proofs.MakesLemmas.{makes}
use Rattle.machine_state.specs.declared.state.State.{State}
use Rattle.machine_state.specs.Keeping.{machine_of}
use Rattle.machine_objects.specs.Adding.{order_alone, alone_instance, PlansAlone, LooksLike, IsAdded, IsMade}

-- ---- owners come before

one_owner : (first n : ℕ) (x : Planned) → x.number ≡ n → IsOwned first None x → (p : ℕ) → x.owner ≡ Some p → (first ≤ p) × (p < n)
one_owner first n x e (inl none) p some = absurd (let h : None ≡ Some p = sym none ∙ some in cc)
one_owner first n x e (inr h) p some = let both = h p some in let least = both.0 in let less = both.1 in (least, omega arith)

owned_from : (units : AllRows) (live : Known) (plan : Plan) (given : List GivenCell) (first n : ℕ) (ds : List Value) (xs : List Planned)
    → AreNumbered n xs → AreOwned first None xs → OwnedBefore first n (map looks_of (map (made_object units live plan given first ds) xs))
owned_from units live plan given first n ds [] h k = tt
owned_from units live plan given first n ds (x ∷ xs) h k =
    (one_owner first n x h.0 k.0, owned_from units live plan given first (suc n) ds xs h.1 k.1)

pub owned_alone : (m : Machine) (u o : ℕ) (i : Instance) → PlansAlone u o m i → OwnedBefore (suc m.given) (suc m.given) (map looks i.objects.items)
owned_alone m u o i h =
    let plan = plan_of_order m.units (order_alone u o m) in
    let written = h.makes.written in
    subst (λ xs. OwnedBefore (suc m.given) (suc m.given) xs) (sym h.makes.objects)
    (owned_from m.units m.known plan (all_given m.units m.known plan) (suc m.given) (suc m.given) [] plan.objects
    (subst (λ xs. AreNumbered (suc m.given) xs) written h.makes.numbered) (subst (λ xs. AreOwned (suc m.given) None xs) written h.makes.owned))

-- ---- the machine with what was added

with_new : (old new : State) (planned : List Planned) → new.written.items ≡ old.written.items ++ planned → new.units ≡ old.units → new.time ≡ old.time → new.turns ≡ old.turns → new.answered ≡ old.answered
    → machine_with (machine_of old) planned new.tree new.trace.items ≡ machine_of new
with_new old new planned e units time turns answered =
    let base = machine_of new in
    ap (λ us. record base { units = all_seen us.now; written = old.written.items ++ planned; time = old.time; turns = old.turns; answered = old.answered }) (sym units)
    ∙ ap (λ ws. record base { written = ws; time = old.time; turns = old.turns; answered = old.answered }) (sym e)
    ∙ ap (λ t. record base { time = t; turns = old.turns; answered = old.answered }) (sym time)
    ∙ ap (λ t. record base { turns = t; answered = old.answered }) (sym turns)
    ∙ ap (λ n. record base { answered = n }) (sym answered)

pub added : (old new : State) (x : Instance) (i : plans.Instance) (before after : List ObjNo)
    → AddsAll None (map looks x.objects.items) x.shapes.items old.tree new.tree
    → TellsObjects old.tree.given (map looks x.objects.items) old.trace.items new.trace.items before after
    → new.written.items ≡ old.written.items ++ x.planned.items → new.units ≡ old.units → new.time ≡ old.time → new.turns ≡ old.turns → new.answered ≡ old.answered
    → LooksLike x i → IsAdded x i old new before after
added old new x i before after adds tells written units time turns answered (objects, names) =
    let adds_so = subst (λ ns. AddsAll None (map looks_of i.objects) ns old.tree new.tree) names (subst (λ xs. AddsAll None xs x.shapes.items old.tree new.tree) objects adds) in
    let tells_so = subst (λ xs. TellsObjects old.tree.given xs old.trace.items new.trace.items before after) objects tells in
    record {
      added = makes None x.planned.items i (machine_of old) old.tree new.tree old.trace.items new.trace.items before after (record { tree = refl; given = refl; known = refl; trace_so = refl }) adds_so tells_so
          ∙ ap (goes tt) (with_new old new x.planned.items written units time turns answered);
      given = adds_so.given ∙ ap (λ n. old.tree.given + n) (length-map i.objects looks_of);
      starts = tells_so.starts;
    }

pub added_alone : (old new : State) (u o : ℕ) (x : Instance) (before after : List ObjNo) → PlansAlone u o (machine_of old) x
    → (LooksLike x (alone_instance u o (machine_of old)) → IsAdded x (alone_instance u o (machine_of old)) old new before after) → IsMade u o old new before after
added_alone old new u o x before after p f =
    let a = f (p.makes.objects, p.makes.names) in
    record {
      planned = p.planned;
      added = subst (λ ws. add_told None ws (alone_instance u o (machine_of old)) old.tree.given (machine_of old) ≡ goes tt (machine_of new)) p.makes.written a.added;
      given = a.given;
      starts = a.starts;
    }

pub added_if : (old new : State) (x : Instance) (i : plans.Instance) (before after : List ObjNo) (result : Result (Unit {0}) NoMemory)
    → OnOk result (AddsAll None (map looks x.objects.items) x.shapes.items old.tree new.tree)
    → OnOk result (TellsObjects old.tree.given (map looks x.objects.items) old.trace.items new.trace.items before after)
    → new.written.items ≡ old.written.items ++ x.planned.items → new.units ≡ old.units → new.time ≡ old.time → new.turns ≡ old.turns → new.answered ≡ old.answered
    → OnOk result (LooksLike x i → IsAdded x i old new before after)
added_if old new x i before after (Err e) adds tells written units time turns answered = tt
added_if old new x i before after (Ok done) adds tells written units time turns answered = added old new x i before after adds tells written units time turns answered
