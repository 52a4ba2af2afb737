-- What goes on behind an expression and behind a statement, and where code stands.
use Rattle.std.specs.Prelude.{ℕ, ◌-◌, nat_eq, Bool as 𝔹, if◌then◌else◌, List}
use Rattle.qml_base.specs.declared.numbers.ObjNo.{ObjNo}
use Rattle.qml_base.specs.declared.numbers.Place.{Place}
use Rattle.qml_value.specs.declared.value.Value.{Value}
use Rattle.qml_base.specs.declared.numbers.ExprNo.{ExprNo}
use Rattle.qml_base.specs.declared.names.Home.{Home}
use Rattle.evaluation.specs.declared.effect.Effect.{Effect}
use Rattle.qml_base.specs.declared.cause.Cause.{Cause}
use Rattle.qml_base.specs.declared.cause.Cause.TheVariants as cause
use Rattle.evaluation.specs.declared.came.Ended.{Ended}
use Rattle.evaluation.specs.declared.came.Ended.TheVariants as by
use Rattle.evaluation.specs.Ask.{Ask, ended, condemned, does}
use Rattle.js_meaning.specs.Locals.{State}

-- behind an expression
abbrev pub Then : Type 0
Then = Value → State → Ask

-- behind a statement
pub record Exits : Type 0 where
  pub next : State → Ask
  pub give : Value → State → Ask
  pub stop : State → Ask
  pub again : State → Ask

-- where the code stands; whether effects are done, in a body of this object; the functions of the `Qt.binding`s that
-- stand in its text, by their places; and the call of a body with an object as its scope, over the nodes that are left
pub record Around : Type 0 where
  pub home : Home
  pub acts : 𝔹
  pub body : ObjNo
  pub bound : Place → ExprNo
  pub enter : ExprNo → ObjNo → List Value → ℕ → (Value → ℕ → Ask) → Ask

abbrev pub throws : Cause → Ask
throws c = ended (by.Threw c)

-- a node counts one when it is begun
abbrev pub counted : State → (State → Ask) → Ask
counted s go = if nat_eq s.left 0 then throws cause.Nodes else go (record { scopes = s.scopes; left = s.left - 1 })

abbrev pub given : Ended → State → Then → Ask
given (by.Value v) s k = k v s
given o s k = ended o

-- what is done outside: only in a body, where it counts one, and else it throws in place of being done
abbrev pub acted : Around → Effect → State → Then → Ask
acted a e s k = if a.acts then counted s (λ t. does e t.left (λ v. k v t)) else throws cause.Call

-- a body calls nothing of a condemned object, unless it is itself of one
abbrev pub unless_gone : Around → ObjNo → Ask → Ask
unless_gone a o go = if a.acts then condemned o (λ b. if b then condemned a.body (λ c. if c then go else throws cause.Gone) else go) else go
