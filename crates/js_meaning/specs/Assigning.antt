-- Assignment to locals and to what is outside.
use Rattle.std.specs.Prelude.{ℤ, ◌+ℤ◌, Bool as 𝔹, true, false, if◌then◌else◌, Option, Some, None}
use Rattle.qml_base.specs.declared.numbers.ObjNo.{ObjNo}
use Rattle.qml_base.specs.declared.numbers.Place.{Place}
use Rattle.qml_syntax.specs.declared.operators.Operator.{Operator}
use Rattle.qml_syntax.specs.declared.operators.Operator.TheVariants as op
use Rattle.qml_syntax.specs.declared.operators.Assignment.{Assignment}
use Rattle.qml_syntax.specs.declared.operators.Assignment.TheVariants as update
use Rattle.qml_syntax.specs.Tree.{Expr, steps, Step, member, binding, Steps, no_steps, a_step, Targets, no_targets, a_target}
use Rattle.qml_value.specs.declared.value.Value.{Value, Undefined, Null, Text, Object, Component}
use Rattle.qml_base.specs.declared.numbers.CellNo.{CellNo}
use Rattle.qml_base.specs.declared.names.Found.{Found}
use Rattle.qml_base.specs.declared.names.Found.TheVariants as found
use Rattle.evaluation.specs.declared.effect.Effect.{Effect}
use Rattle.evaluation.specs.declared.effect.Effect.TheVariants as effect
use Rattle.qml_base.specs.declared.cause.Cause.TheVariants as cause
use Rattle.js_meaning.specs.Operate.{bounded, is_nothing, operate, on_num}
use Rattle.evaluation.specs.Ask.{Ask, finds, has, by_id, condemned}
use Rattle.js_meaning.specs.Locals.{Units, Held, alive, State, local, puts}
use Rattle.js_meaning.specs.Going.{Then, Around, throws, counted, given, acted}
use Rattle.js_meaning.specs.Calling.{is_qt_binding}
use Rattle.js_meaning.specs.Looking.{found_value, local_or, name_value, member_of, element_of, name_in}

-- what is assigned to: a local, what a name finds, or a member or element of a value
pub data Spot : Type 0 where
  at_local : Units → Spot
  at_name : Units → Found → Spot
  at_member : Value → Units → Spot
  at_element : Value → Value → Spot

abbrev pub operator_of : Assignment → Option Operator
operator_of update.Plain = None
operator_of update.Plus = Some op.Plus
operator_of update.Minus = Some op.Minus
operator_of update.Times = Some op.Times
operator_of update.Divide = Some op.Divide
operator_of update.Remainder = Some op.Remainder
operator_of update.BitAnd = Some op.BitAnd
operator_of update.BitOr = Some op.BitOr
operator_of update.BitXor = Some op.BitXor
operator_of update.ShiftLeft = Some op.ShiftLeft
operator_of update.ShiftRight = Some op.ShiftRight
operator_of update.ShiftRightUnsigned = Some op.ShiftRightUnsigned

abbrev pub name_spot : Around → Units → State → (Spot → State → Ask) → Ask
name_spot a n s k = local_or (local n s.scopes) (finds a.home n (λ f. k (at_name n f) s)) s (λ v t. k (at_local n) t)

abbrev pub written_local : Option Held → Units → Value → State → Then → Ask
written_local (Some (alive true old)) n v s k = k v (puts n (alive true v) s)
written_local (Some (alive false old)) n v s k = throws cause.Readonly
written_local _ n v s k = throws cause.Name

-- an alias of a whole object can't be assigned
abbrev pub whole_alias : ObjNo → Ask
whole_alias o = condemned o (λ b. if b then throws cause.Gone else throws cause.Readonly)

abbrev pub id_or_alias : Around → Units → ObjNo → Ask
id_or_alias a n o = by_id a.home n (λ b. if b then throws cause.Name else whole_alias o)

abbrev pub named_cell : Around → Units → Found → (CellNo → Ask) → Ask
named_cell a n (found.Cell c) go = go c
named_cell a n (found.Object o) go = id_or_alias a n o
named_cell a n (found.Component o) go = id_or_alias a n o
named_cell a n f go = throws cause.Name

abbrev pub own_cell : Found → (CellNo → Ask) → Ask
own_cell (found.Cell c) go = go c
own_cell (found.Object o) go = whole_alias o
own_cell (found.Component o) go = whole_alias o
own_cell f go = throws cause.Name

abbrev pub member_cell : Value → Units → (CellNo → Ask) → Ask
member_cell Undefined n go = throws cause.Null
member_cell Null n go = throws cause.Null
member_cell (Object o) n go = has o n (λ f. own_cell f go)
member_cell (Component o) n go = has o n (λ f. own_cell f go)
member_cell v n go = throws cause.Kind

abbrev pub element_cell : Value → Value → (CellNo → Ask) → Ask
element_cell v (Text n) go = member_cell v n go
element_cell v i go = if is_nothing v then throws cause.Null else throws cause.Kind

-- the property that is meant; a `Qt.binding` may come to a local too, which is none
abbrev pub spot_cell : Around → Spot → (CellNo → Ask) → Ask
spot_cell a (at_local n) go = throws cause.Kind
spot_cell a (at_name n f) go = named_cell a n f go
spot_cell a (at_member v n) go = member_cell v n go
spot_cell a (at_element v i) go = element_cell v i go

abbrev pub written_outside : Around → Spot → (CellNo → Effect) → Value → State → Then → Ask
written_outside a spot e v s k = if a.acts then spot_cell a spot (λ c. acted a (e c) s (λ w t. k v t)) else throws cause.Call

abbrev pub written : Around → Spot → Value → State → Then → Ask
written a (at_local n) v s k = written_local (local n s.scopes) n v s k
written a spot v s k = written_outside a spot (λ c. effect.Write c v) v s k

abbrev pub spot_value : Around → Spot → State → Then → Ask
spot_value a (at_local n) s k = name_value a n s k
spot_value a (at_name n f) s k = found_value n f s k
spot_value a (at_member v n) s k = member_of v n s k
spot_value a (at_element v i) s k = element_of v i s k

-- the value to be written, by the operator and what stood there before the right side was evaluated
abbrev pub updated : Option Operator → Value → Value → State → Then → Ask
updated None old v s k = k v s
updated (Some o) old v s k = given (operate o old v) s k

abbrev pub old_value : Around → Option Operator → Spot → State → Then → Ask
old_value a None spot s k = k Undefined s
old_value a (Some o) spot s k = spot_value a spot s k

-- `++` and `--`: the value that was there, and the new one
abbrev pub bumped_by : Around → ℤ → Spot → State → (Value → Value → State → Ask) → Ask
bumped_by a z spot s k = spot_value a spot s (λ old t. given (on_num (λ n. bounded (n +ℤ z)) old) t (λ new u. written a spot new u (λ v w. k old new w)))

-- the function of a `Qt.binding` that is assigned, by the place of its call
abbrev pub is_binding : Option Units → Step → 𝔹
is_binding (Some n) (member m p) = is_qt_binding n m
is_binding n i = false

abbrev pub place_of_function : Steps → Option Place
place_of_function (a_step (binding p ss) no_steps) = Some p
place_of_function is = None

abbrev pub bound_in : Expr → Option Place
bound_in (steps e i is) = if is_binding (name_in e) i then place_of_function is else None
bound_in e = None

-- that of the last of several targets
abbrev pub if_last : Targets → Option Place → Option Place
if_last no_targets b = b
if_last (a_target t g p ts) b = None

-- the chain, the name `Qt` and the function count one each; the value is Undefined
abbrev pub rebound : Around → Place → Spot → State → Then → Ask
rebound a p spot s k = counted s (λ s. counted s (λ s. counted s (λ s. written_outside a spot (λ c. effect.Rebind c (a.bound p) a.home) Undefined s k)))

-- an assignment to what was looked up; for an operator it is read before the right side is evaluated
abbrev pub assigned_to : Around → Option Operator → Option Place → Spot → State → (State → Then → Ask) → Then → Ask
assigned_to a None (Some p) spot s right k = rebound a p spot s k
assigned_to a o b spot s right k = old_value a o spot s (λ old u. right u (λ r w. updated o old r w (λ v x. written a spot v x k)))

-- whether the first argument is rounded directly
