-- The parts of the list of deliveries of a signal.
use Rattle.std.specs.Prelude.{ℕ, nat_eq, Bool, true, false, List, [], ◌∷◌, ◌++◌, codes, Option, Some, None}
use Rattle.std.specs.List.{find}
use Rattle.std.specs.Option.{unwrap_or}
use Rattle.qml_base.specs.declared.numbers.ObjNo.{ObjNo}
use Rattle.qml_syntax.specs.Tree.{Units}
use Rattle.qml_value.specs.declared.value.Value.{Value}
use Rattle.qml_types.specs.declared.kind.TypeNo.{TypeNo}
use Rattle.qml_types.specs.declared.kind.TypeNo.TheVariants as no
use Rattle.program_names.specs.Names.{handler_of}
use Rattle.unit_rows.specs.declared.names.NameRow.{NameRow}
use Rattle.unit_rows.specs.declared.names.NameFinds.TheVariants.{Signal as finds_signal}
use Rattle.instance_plans.specs.Numbers.{AllRows}
use Rattle.instance_plans.specs.declared.planned.Planned.{Planned}
use Rattle.machine_model.specs.State.{Machine, Signal, numbered, reacts, Delivery}
use Rattle.machine_model.specs.Dispatch.{NamedSignal, signals_written}
use Rattle.own_handlers.specs.Own.{own_deliveries}
use Rattle.signal_dispatch.specs.Hearing.{Hears, heard_by_all}

-- ---- the reaction: a Connections reacts to a change of its target, whose cell has the place 1

abbrev pub is_change_of_target : Signal → Bool
is_change_of_target (numbered n) = nat_eq n 2
is_change_of_target _ = false

abbrev pub does_react : TypeNo → Signal → Bool
does_react no.Connections s = is_change_of_target s
does_react t s = false

abbrev pub reaction_of : ObjNo → Delivery
reaction_of o = record { object = o; deed = reacts (codes "target"); is_aimed = false }

abbrev pub reactions : ObjNo → TypeNo → Signal → List Delivery
reactions o t s = elim (does_react t s) [
  | true ↦ reaction_of o ∷ []
  | false ↦ []
]

-- ---- what Connections hear of the signal of a number

abbrev pub parameters_in : NameRow → List Units
parameters_in r = elim (r.finds) as (λ _. List Units) [
  | finds_signal s parameters ↦ parameters
  | _ ↦ []
]

abbrev pub no_signal : NamedSignal
no_signal = record { number = 0; name = []; parameters = [] }

abbrev pub signal_at : AllRows → Planned → ℕ → NamedSignal
signal_at units x n = unwrap_or (find (λ (s : NamedSignal). nat_eq s.number n) (signals_written units x)) no_signal

abbrev pub parameters_at : AllRows → Planned → ℕ → List Units
parameters_at units x n = (signal_at units x n).parameters

abbrev pub hears_of : AllRows → Planned → ObjNo → ℕ → List Value → Hears
hears_of units x o n args = record { object = o; handler = handler_of (signal_at units x n).name; parameters = parameters_at units x n; args = args }

abbrev pub heard_of : Machine → Planned → ObjNo → ℕ → List Value → List Delivery
heard_of m x o n args = heard_by_all m (hears_of m.units x o n args) m.tree.objects

-- the attached signals are for the object alone
abbrev pub heard_at : Machine → Planned → ObjNo → Signal → List Value → List Delivery
heard_at m x o (numbered n) args = heard_of m x o n args
heard_at m x o _ args = []

-- ---- of an object that is written so

abbrev pub of_written : Machine → Planned → ObjNo → Signal → List Value → List Delivery
of_written m x o s args = own_deliveries m.units x o s args ++ heard_at m x o s args
