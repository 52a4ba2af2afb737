-- The cycle, step by step.
use Rattle.std.proofs.Common.{◌≡◌, ◌∙◌, ap, sym, refl, subst, arith, ℕ, zero, suc, ◌-◌, nat_eq, Bool, true, false, List, [], ◌∷◌, ◌++◌, map, reverse, Result, Ok, Err, OnOk}
use Rattle.std.proofs.lemmas.Bool.{ne_eqb}
use Rattle.std.proofs.lemmas.List.{reverse-append}
use Rattle.qml_base.specs.declared.numbers.ObjNo.{ObjNo}
use Rattle.qml_base.specs.declared.cause.Cause.{Cause}
use Rattle.qml_value.specs.declared.value.Value.{Value, Undefined}
use Rattle.evaluation.specs.Ask.{Ask}
use Rattle.evaluation.specs.declared.effect.Effect.{Effect}
use Rattle.js_meaning.specs.Resuming.{Action, an_effect, next_action}
use Rattle.trace_print.specs.declared.entry.Site.{Site}
use Rattle.machine_model.specs.State.{Machine, Delivery, Signal}
use Rattle.machine_model.specs.declared.stop.Stop.{Stop}
use Rattle.machine_model.specs.declared.stop.Stop.TheVariants.{Turns as turns, Nesting as nesting}
use Rattle.machine_model.specs.Acts.{Ran, goes, stops, Done, then_go, each, by_test, give, tell, stop_with}
use Rattle.machine_model.specs.Dispatch.{deliveries}
use Rattle.machine_model.specs.Emission.{Below, deliver_unless, emit}
use Rattle.machine_model.specs.Bodies.{Answer, gives, throws, after, act, on_answer, exec, exec_next, threw_entry}
use Rattle.machine_model.specs.Levels.{handler_in, run, refuse, within_turns, deliver}
use Rattle.machine_model.proofs.BodyLemmas.{goes_by_action}
use Rattle.machine_steps.specs.declared.fault.Fault.{Fault}
use Rattle.machine_steps.specs.declared.fault.Fault.TheVariants as fault
use Rattle.machine_steps.specs.Giving.{Fails}
use Rattle.machine_state.specs.declared.state.State.{State}
use Rattle.machine_state.specs.Keeping.{machine_of}
use Rattle.machine_bodies.specs.Doing.{sight_of}
use Rattle.own_handlers.specs.declared.delivery.Delivery as own
use Rattle.own_handlers.specs.Seen.{delivery_seen}
use Rattle.machine_deliveries.specs.Doing.{Does}

-- ---- a delivery

pub out_of_turns : (left : ℕ) (d : Delivery) (m : Machine) → m.turns ≡ 0 → deliver left d m ≡ stops turns m
out_of_turns zero d m none = ap (λ t. by_test (nat_eq t 0) (stop_with turns) (refuse d) m) none
out_of_turns (suc n) d m none = ap (λ t. by_test (nat_eq t 0) (stop_with turns) (run (deliver n) d) m) none

some_turns : (t : ℕ) → (t ≡ 0 → ⊥) → nat_eq t 0 ≡ false
some_turns t h = ne_eqb t 0 h

pub refused : (left : ℕ) (d : Delivery) (m : Machine) → (m.turns ≡ 0 → ⊥) → left ≡ 0 → deliver left d m ≡ stops (nesting d.object (handler_in d.deed)) m
refused left d m some none =
    ap (λ k. deliver k d m) none ∙ ap (λ b. by_test b (stop_with turns) (refuse d) m) (some_turns m.turns some)

pub one_less : (left : ℕ) (d : Delivery) (m : Machine) → (m.turns ≡ 0 → ⊥) → (left ≡ 0 → ⊥) → deliver left d m ≡ run (deliver (left - 1)) d m
one_less zero d m some h = absurd (h refl)
one_less (suc n) d m some h =
    let next : n ≡ suc n - 1 = omega arith in
    ap (λ b. by_test b (stop_with turns) (run (deliver n) d) m) (some_turns m.turns some) ∙ ap (λ k. run (deliver k) d m) next

-- ---- a body

pub goes_further : (below : Below) (at : Site) (s : State) (m : Machine) (e : Effect) (n : ℕ) (go : Value → Ask) (v : Value) (next : Action) (all : Ran (Unit {0}))
    → act below e m ≡ goes (gives v) (machine_of s) → next ≡ next_action (sight_of s.tree) (go v) → exec_next below at (an_effect e n go) m ≡ all
    → exec_next below at next (machine_of s) ≡ all
goes_further below at s m e n go v next all acted is h =
    ap (λ (x : Action). exec_next below at x (machine_of s)) is
    ∙ sym (goes_by_action below at (go v) (machine_of s))
    ∙ sym (ap (λ r. then_go r (on_answer below at (λ w. exec below at (go w)))) acted)
    ∙ h

pub throws_there : (below : Below) (at : Site) (m k : Machine) (e : Effect) (n : ℕ) (go : Value → Ask) (why : Cause) (all : Ran (Unit {0}))
    → act below e m ≡ goes (throws why) k → exec_next below at (an_effect e n go) m ≡ all → tell (threw_entry at why) k ≡ all
throws_there below at m k e n go why all acted h =
    sym (ap (λ r. then_go r (on_answer below at (λ w. exec below at (go w)))) acted) ∙ h

pub stops_there : (below : Below) (at : Site) (m k : Machine) (f : Fault) (e : Effect) (n : ℕ) (go : Value → Ask) (all : Ran (Unit {0}))
    → Fails f k (act below e m) → exec_next below at (an_effect e n go) m ≡ all → Fails f k all
stops_there below at m k fault.NoMemory e n go all stopped h = tt
stops_there below at m k (fault.Stopped s) e n go all stopped h =
    sym h ∙ ap (λ r. then_go r (on_answer below at (λ w. exec below at (go w)))) stopped

-- ---- an effect

pub done_behind : (x : Ran Answer) (d : Done) (n k : Machine) → x ≡ after d n → d n ≡ goes tt k → x ≡ goes (gives Undefined) k
done_behind x d n k e h = e ∙ ap (λ r. then_go r (λ _. give (gives Undefined))) h

pub off_behind : (x : Ran Answer) (d : Done) (n k : Machine) (f : Fault) → x ≡ after d n → Fails f k (d n) → Fails f k x
off_behind x d n k fault.NoMemory e h = tt
off_behind x d n k (fault.Stopped s) e h = e ∙ ap (λ r. then_go r (λ _. give (gives Undefined))) h

-- ---- an emission

pub emitted : (below : Below) (o : ObjNo) (s : Signal) (args : List Value) (m n : Machine) (list : List Delivery) (result : Result (Unit {0}) Fault) → list ≡ deliveries m o s args
    → Does result n (each (deliver_unless below o) list m) → Does result n (emit below o s args m)
emitted below o s args m n list result is h = subst (λ ds. Does result n (each (deliver_unless below o) ds m)) is h

pub next_left : (xs rest : List own.Delivery) (x : own.Delivery) → xs ≡ rest ++ x ∷ [] → map delivery_seen (reverse xs) ≡ delivery_seen x ∷ map delivery_seen (reverse rest)
next_left xs rest x e = ap (λ ds. map delivery_seen (reverse ds)) e ∙ ap (map delivery_seen) (reverse-append rest (x ∷ []))

pub always : {A E : Type 0} (P : Type 0) (r : Result A E) → P → OnOk r P
always P (Ok a) p = p
always P (Err e) p = tt
