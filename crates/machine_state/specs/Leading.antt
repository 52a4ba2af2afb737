-- What a call answers of an act of which it does the front.
use Rattle.std.specs.Prelude.{◌≡◌, Result, Ok, Err}
use Rattle.machine_model.specs.State.{Machine}
use Rattle.machine_model.specs.Acts.{Ran, Act}
use Rattle.machine_steps.specs.declared.fault.Fault.{Fault}
use Rattle.machine_steps.specs.Giving.{Fails}

-- the act comes to what is left, from the machine as it is now; or it stops as it says; without memory nothing is said
abbrev pub Leads : {A B : Type 0} → Ran A → Result B Fault → (B → Act A) → Machine → Type 0
Leads ran (Ok b) left new = ran ≡ left b new
Leads ran (Err f) left new = Fails f new ran
