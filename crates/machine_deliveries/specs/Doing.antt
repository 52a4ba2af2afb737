-- What the calls of the cycle answer, and what is left of a delivery that has begun.
use Rattle.std.specs.Prelude.{◌≡◌, ℕ, Result, Ok, Err}
use Rattle.qml_value.specs.declared.value.Value.{Value}
use Rattle.evaluation.specs.Ask.{Ask}
use Rattle.machine_model.specs.State.{Machine, Deed}
use Rattle.qml_base.specs.declared.numbers.ObjNo.{ObjNo}
use Rattle.trace_print.specs.declared.entry.Entry.{Entry}
use Rattle.machine_model.specs.Acts.{Ran, goes, Done, ◌>>◌, nothing, tell}
use Rattle.machine_model.specs.Emission.{Below}
use Rattle.machine_model.specs.Reactions.{react}
use Rattle.machine_model.specs.Bodies.{exec_next}
use Rattle.machine_model.specs.Levels.{spend, do_deed}
use Rattle.machine_steps.specs.declared.fault.Fault.{Fault}
use Rattle.machine_steps.specs.Giving.{Fails}
use Rattle.machine_bodies.specs.Doing.{action_meant}
use Rattle.machine_deliveries.specs.declared.beginning.Begun.{Begun}
use Rattle.machine_deliveries.specs.declared.beginning.Begun.TheVariants as begun

-- it is done whole, or it stops as it says; without memory nothing is said
abbrev pub Does : Result (Unit {0}) Fault → Machine → Ran (Unit {0}) → Type 0
Does (Ok done) new ran = ran ≡ goes tt new
Does (Err f) new ran = Fails f new ran

abbrev pub left_of_begun : {W : Type 0} → (W → Value → Ask) → (W → ℕ) → Below → Begun W → Done
left_of_begun go left below begun.Done = nothing
left_of_begun go left below (begun.Body at action) = exec_next below at (action_meant go left action)

-- a delivery is told and counts one turn; then an object reacts, or a deed is done
abbrev pub tell_and_spend : Entry → Done
tell_and_spend e = tell e >> spend

abbrev pub told_reaction : Entry → ObjNo → Done
told_reaction e o = tell e >> spend >> react o

abbrev pub told_deed : Below → Entry → ObjNo → Deed → Done
told_deed below e o deed = tell e >> spend >> do_deed below o deed
