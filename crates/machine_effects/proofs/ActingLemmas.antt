-- Effects that log, and that throw.
use Rattle.std.proofs.Common.{◌≡◌, ◌∙◌, ap, sym, refl, subst, ℕ, Bool, true, false, List, [], ◌∷◌, Result}
use Rattle.qml_base.specs.declared.numbers.ObjNo.{ObjNo}
use Rattle.qml_base.specs.declared.cause.Cause.TheVariants as cause
use Rattle.qml_syntax.specs.Tree.{Units}
use Rattle.qml_value.specs.declared.value.Value.{Value, Undefined, Null, Num, Text, Bool as Truth, List', Fields', Object, Component}
use Rattle.trace_print.specs.declared.entry.Entry.TheVariants as entry
use Rattle.machine_model.specs.State.{Machine, numbered}
use Rattle.machine_model.specs.Acts.{Ran, goes, Act, then_go, give, by_test, tell}
use Rattle.machine_model.specs.Dispatch.{is_condemned}
use Rattle.machine_model.specs.Emission.{Below, emit}
use Rattle.machine_model.specs.Bodies.{Answer, gives, throws, throw_if, after, texts_of, are_heavy, log_entry, log, call_method}
use Rattle.machine_steps.specs.declared.fault.Fault.{Fault}
use Rattle.machine_state.specs.Leading.{Leads}
use Rattle.machine_effects.specs.declared.acting.Effected.{Effected}
use Rattle.machine_effects.specs.Acting.{left_of, is_undefined}

pub too_heavy : (ts : List (List ℕ)) (m : Machine) → are_heavy ts ≡ true → log ts m ≡ goes (throws cause.Size) m
too_heavy ts m e = ap (λ b. by_test b (give (throws cause.Size)) (after (tell (log_entry ts))) m) e

pub logged : (ts texts : List (List ℕ)) (m n : Machine) → texts ≡ ts → are_heavy ts ≡ false → tell (log_entry texts) m ≡ goes tt n → log ts m ≡ goes (gives Undefined) n
logged ts texts m n is e h =
    ap (λ b. by_test b (give (throws cause.Size)) (after (tell (log_entry ts))) m) e
    ∙ ap (λ xs. after (tell (log_entry xs)) m) (sym is)
    ∙ ap (λ r. then_go r (λ _. give (gives Undefined))) h

-- ---- calls

pub of_undefined : (below : Below) (v : Value) (name : Units) (args : List Value) (m : Machine) → is_undefined v ≡ true → call_method below v name args m ≡ log (texts_of args) m
of_undefined below Undefined name args m e = refl
of_undefined below Null name args m e = absurd (cc)
of_undefined below (Truth b) name args m e = absurd (cc)
of_undefined below (Num n) name args m e = absurd (cc)
of_undefined below (Text t) name args m e = absurd (cc)
of_undefined below (List' n row) name args m e = absurd (cc)
of_undefined below (Fields' n row) name args m e = absurd (cc)
of_undefined below (Object o) name args m e = absurd (cc)
of_undefined below (Component o) name args m e = absurd (cc)

pub of_another : (below : Below) (v : Value) (name : Units) (args : List Value) (m : Machine) → is_undefined v ≡ false → call_method below v name args m ≡ goes (throws cause.Call) m
of_another below Undefined name args m e = absurd (cc)
of_another below Null name args m e = refl
of_another below (Truth b) name args m e = refl
of_another below (Num n) name args m e = refl
of_another below (Text t) name args m e = refl
of_another below (List' n row) name args m e = refl
of_another below (Fields' n row) name args m e = refl
of_another below (Object o) name args m e = refl
of_another below (Component o) name args m e = refl

pub called : (below : Below) (v : Value) (name : Units) (args : List Value) (m n : Machine) (result : Result Effected Fault) → is_undefined v ≡ true
    → Leads (log (texts_of args) m) result (left_of below) n → Leads (call_method below v name args m) result (left_of below) n
called below v name args m n result e h = subst (λ r. Leads r result (left_of below) n) (sym (of_undefined below v name args m e)) h

-- ---- signals

pub emitter_gone : (o : ObjNo) (act : Act Answer) (m : Machine) → is_condemned m o ≡ true → throw_if (λ k. is_condemned k o) cause.Gone act m ≡ goes (throws cause.Gone) m
emitter_gone o act m e = ap (λ b. by_test b (give (throws cause.Gone)) act m) e

pub emitter_there : (o : ObjNo) (act : Act Answer) (m : Machine) → is_condemned m o ≡ false → throw_if (λ k. is_condemned k o) cause.Gone act m ≡ act m
emitter_there o act m e = ap (λ b. by_test b (give (throws cause.Gone)) act m) e
