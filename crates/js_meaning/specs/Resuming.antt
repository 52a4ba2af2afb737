-- What a body does next: it goes on by what it sees, up to its next effect or its end.
use Rattle.std.specs.Prelude.{ℕ, Bool}
use Rattle.qml_base.specs.declared.numbers.ObjNo.{ObjNo}
use Rattle.qml_base.specs.declared.numbers.CellNo.{CellNo}
use Rattle.qml_base.specs.declared.cause.Cause.{Cause}
use Rattle.qml_value.specs.declared.value.Value.{Value}
use Rattle.evaluation.specs.declared.came.Ended.{Ended}
use Rattle.evaluation.specs.declared.came.Ended.TheVariants as by
use Rattle.evaluation.specs.declared.effect.Effect.{Effect}
use Rattle.evaluation.specs.Ask.{Ask, ended, reads, finds, has, by_id, condemned, does, Names}

-- what a body sees: what names find, what cells hold, and which objects are condemned
pub record Sight : Type 0 where
  pub names : Names
  pub held : CellNo → Value
  pub is_condemned : ObjNo → Bool

-- an effect, with the nodes left and what is done behind it by its answer; or the end
pub data Action : Type 0 where
  an_effect : Effect → ℕ → (Value → Ask) → Action
  an_end : Ended → Action

abbrev pub next_action : Sight → Ask → Action
next_action s (ended o) = an_end o
next_action s (reads c go) = next_action s (go (s.held c))
next_action s (finds home name go) = next_action s (go (s.names.resolve home name))
next_action s (has o name go) = next_action s (go (s.names.member o name))
next_action s (by_id home name go) = next_action s (go (s.names.is_id home name))
next_action s (condemned o go) = next_action s (go (s.is_condemned o))
next_action s (does e left go) = an_effect e left go

-- what is left of a body behind an effect that answers with a value, or throws
abbrev pub thrown : Cause → Ask
thrown why = ended (by.Threw why)
