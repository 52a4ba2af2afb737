-- The deliveries of the handlers that an object is written with.
use Rattle.std.specs.Prelude.{ℕ, ◌+◌, ◌*◌, nat_eq, Bool, true, false, List, [], ◌∷◌, codes}
use Rattle.std.specs.List.{flat_map, find}
use Rattle.std.specs.Option.{unwrap_or}
use Rattle.qml_base.specs.declared.numbers.ObjNo.{ObjNo}
use Rattle.qml_base.specs.declared.numbers.ExprNo.{ExprNo}
use Rattle.qml_syntax.specs.Tree.{Units}
use Rattle.qml_value.specs.declared.value.Value.{Value}
use Rattle.program_names.specs.Names.{handler_of}
use Rattle.unit_rows.specs.declared.names.SignalRef.{SignalRef}
use Rattle.unit_rows.specs.declared.names.SignalRef.TheVariants.{Change as change_of, Own as own_signal, Completed as on_completed, Destruction as on_destruction}
use Rattle.instance_plans.specs.Numbers.{AllRows, unit_no}
use Rattle.instance_plans.specs.declared.planned.Planned.{Planned}
use Rattle.machine_model.specs.State.{Signal, numbered, completed, destruction, runs, Delivery}
use Rattle.machine_model.specs.Dispatch.{NamedSignal, signals_written, handlers_written}

abbrev pub is_for_number : SignalRef → ℕ → Bool
is_for_number (change_of place) n = nat_eq (2 * place) n
is_for_number (own_signal k) n = nat_eq (2 * k + 1) n
is_for_number _ n = false

abbrev pub is_for : SignalRef → Signal → Bool
is_for h (numbered n) = is_for_number h n
is_for on_completed completed = true
is_for on_destruction destruction = true
is_for _ _ = false

-- the name of the signal of a number; none where there is no such signal
abbrev pub name_at : AllRows → Planned → ℕ → Units
name_at units x n = (unwrap_or (find (λ (s : NamedSignal). nat_eq s.number n) (signals_written units x)) (record { number = 0; name = []; parameters = [] })).name

abbrev pub handler_at : AllRows → Planned → Signal → Units
handler_at units x (numbered n) = handler_of (name_at units x n)
handler_at units x completed = codes "onCompleted"
handler_at units x destruction = codes "onDestruction"

abbrev pub body_at : ℕ → ℕ → ExprNo
body_at u body = record { unit = unit_no u; at = body }

abbrev pub delivery_of : AllRows → Planned → ObjNo → Signal → List Value → ExprNo → Delivery
delivery_of units x o s args body = record { object = o; deed = runs (handler_at units x s) body [] args; is_aimed = false }

abbrev pub delivery_if : AllRows → Planned → ObjNo → Signal → List Value → SignalRef × ExprNo → List Delivery
delivery_if units x o s args h = elim (is_for h.0 s) [
  | true ↦ delivery_of units x o s args h.1 ∷ []
  | false ↦ []
]

abbrev pub own_deliveries : AllRows → Planned → ObjNo → Signal → List Value → List Delivery
own_deliveries units x o s args = flat_map (delivery_if units x o s args) (handlers_written units x)
