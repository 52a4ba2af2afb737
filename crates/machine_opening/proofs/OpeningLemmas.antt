-- Completions by number, and what is left of a making.
use Rattle.std.proofs.Common.{◌≡◌, ◌∙◌, ap, sym, refl, subst, arith, add-one, ℕ, zero, suc, ◌+◌, ◌-◌, ◌<◌, List, [], ◌∷◌, Result}
use Rattle.qml_base.specs.declared.numbers.ObjNo.{ObjNo}
use Rattle.instance_plans.specs.Numbers.{object_no}
use Rattle.machine_model.specs.State.{Machine}
use Rattle.machine_model.specs.Acts.{Ran, goes, stops, Done, then_go, each}
use Rattle.machine_steps.specs.declared.fault.Fault.{Fault}
use Rattle.machine_steps.specs.declared.fault.Fault.TheVariants as fault
use Rattle.machine_steps.specs.Giving.{Fails}
use Rattle.machine_objects.specs.Making.{counted}
use Rattle.machine_deliveries.specs.Doing.{Does}

opened : (act : ObjNo → Done) (k n : ℕ) (m : Machine) → k < n
    → each act (counted (suc k) (n - k)) m ≡ then_go (act (object_no (k + 1)) m) (λ _. each act (counted (suc (k + 1)) (n - (k + 1))))
opened act k n m less =
    let many : n - k ≡ suc (n - (k + 1)) = omega arith in
    ap (λ i. each act (counted (suc k) i) m) many
    ∙ ap (λ i. then_go (act (object_no i) m) (λ _. each act (counted (suc i) (n - (k + 1))))) (sym (add-one k))

pub one_completed : (act : ObjNo → Done) (k n : ℕ) (m m' : Machine) (all : Ran (Unit {0})) → k < n → act (object_no (k + 1)) m ≡ goes tt m'
    → each act (counted (suc k) (n - k)) m ≡ all → each act (counted (suc (k + 1)) (n - (k + 1))) m' ≡ all
one_completed act k n m m' all less e h =
    sym (ap (λ r. then_go r (λ _. each act (counted (suc (k + 1)) (n - (k + 1))))) e) ∙ sym (opened act k n m less) ∙ h

pub completion_off : (act : ObjNo → Done) (k n : ℕ) (m m' : Machine) (f : Fault) (all : Ran (Unit {0})) → k < n → Fails f m' (act (object_no (k + 1)) m)
    → each act (counted (suc k) (n - k)) m ≡ all → Fails f m' all
completion_off act k n m m' fault.NoMemory all less e h = tt
completion_off act k n m m' (fault.Stopped s) all less e h =
    sym h ∙ opened act k n m less ∙ ap (λ r. then_go r (λ _. each act (counted (suc (k + 1)) (n - (k + 1))))) e

pub all_completed : (act : ObjNo → Done) (k n : ℕ) (m : Machine) (all : Ran (Unit {0})) → (k < n → ⊥) → each act (counted (suc k) (n - k)) m ≡ all → all ≡ goes tt m
all_completed act k n m all none h =
    let nothing : n - k ≡ 0 = omega (arith, none) in
    sym h ∙ ap (λ i. each act (counted (suc k) i) m) nothing

-- what is left is done
pub then_does : (x y : Ran (Unit {0})) (n : Machine) (result : Result (Unit {0}) Fault) → x ≡ y → Does result n y → Does result n x
then_does x y n result e h = subst (λ r. Does result n r) (sym e) h
