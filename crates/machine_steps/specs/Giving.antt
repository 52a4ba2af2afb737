-- What a step answers, as the machine's definitions have it.
use Rattle.std.specs.Prelude.{◌≡◌, Result, Ok, Err}
use Rattle.machine_model.specs.State.{Machine}
use Rattle.machine_model.specs.Acts.{Ran, goes, stops}
use Rattle.machine_steps.specs.declared.fault.Fault.{Fault}
use Rattle.machine_steps.specs.declared.fault.Fault.TheVariants as fault

-- it stops as the act does; without memory nothing is said
abbrev pub Fails : {A : Type 0} → Fault → Machine → Ran A → Type 0
Fails (fault.Stopped s) new ran = ran ≡ stops s new
Fails fault.NoMemory new ran = Unit {0}

-- it goes on as the act does, or stops as it does
abbrev pub Gives : {A B : Type 0} → (B → A) → Result B Fault → Machine → Ran A → Type 0
Gives of (Ok b) new ran = ran ≡ goes (of b) new
Gives of (Err f) new ran = Fails f new ran
