-- Which deliveries a signal brings: the object's own reaction, its handlers, the type's documents first and then the place of
-- use, and those of the enabled Connections whose target it is, by number and in the order of writing.
use Rattle.std.specs.Prelude.{ℕ, ◌+◌, ◌*◌, Bool, true, false, not, ◌&&◌, nat_eq, if◌then◌else◌, List, [], ◌∷◌, ◌++◌, map, codes, Option, Some, None}
use Rattle.std.specs.Str.{bytes_eq}
use Rattle.std.specs.Option.{option_map, unwrap_or}
use Rattle.std.specs.List.{flat_map, filter_map, find, list_any}
use Rattle.qml_base.specs.declared.numbers.ObjNo.{ObjNo}
use Rattle.qml_base.specs.declared.numbers.ExprNo.{ExprNo}
use Rattle.qml_syntax.specs.Tree.{Units}
use Rattle.qml_value.specs.declared.value.Value.{Value, Object as AnObject, Component as AComponent}
use Rattle.qml_types.specs.declared.kind.TypeNo.{TypeNo}
use Rattle.qml_types.specs.declared.kind.TypeNo.TheVariants as no
use Rattle.program_names.specs.Names.{handler_of}
use Rattle.program_names.specs.Layers.{names_of_type, same_type}
use Rattle.tree_model.specs.declared.cells.Object.{Object}
use Rattle.tree_model.specs.Rules.{cell_at, is_set}
use Rattle.qml_types.specs.Table.{lineage}
use Rattle.unit_rows.specs.declared.names.SignalRef.{SignalRef}
use Rattle.unit_rows.specs.declared.names.HandlerRow.{HandlerRow}
use Rattle.unit_rows.specs.declared.names.NameRow.{NameRow}
use Rattle.unit_rows.specs.declared.names.SignalRef.TheVariants.{Change as change_of, Own as own_signal, OfTarget as of_target, Completed as on_completed, Destruction as on_destruction}
use Rattle.unit_rows.specs.declared.names.NameFinds.TheVariants.{Signal as finds_signal}
use Rattle.unit_rows.specs.NamesOfObjects.{rows_of_type}
use Rattle.instance_plans.specs.Numbers.{AllRows, row_at, documents_of, builtin_planned, planned_at, unit_no}
use Rattle.instance_plans.specs.declared.planned.Planned.{Planned}
use Rattle.instance_plans.specs.NamesMade.{signal_no}
use Rattle.instance_plans.specs.Plans.{names_of_row}
use Rattle.machine_model.specs.State.{Machine, Signal, numbered, completed, destruction, Deed, reacts, runs, Delivery}
use Rattle.machine_model.specs.Showing.{held_in}

-- ---- what an object is written with

abbrev pub handler_at : ℕ → HandlerRow → SignalRef × ExprNo
handler_at u h = (h.signal, record { unit = unit_no u; at = h.body })

abbrev pub handlers_written : AllRows → Planned → List (SignalRef × ExprNo)
handlers_written units x =
    let r = row_at units x.unit x.object in
    elim x.is_around [
      | true ↦ []
      | false ↦ flat_map (λ u. map (handler_at u) (row_at units u 0).handlers) (documents_of units r.of_type) ++ map (handler_at x.unit) r.handlers
    ]

abbrev pub names_written : AllRows → Planned → List NameRow
names_written units x = elim x.is_around [
  | true ↦ rows_of_type (flat_map names_of_type (lineage no.Component))
  | false ↦ names_of_row units (row_at units x.unit x.object)
]

-- a signal with its number, its name and the names of its parameters
pub record NamedSignal : Type 0 where
  pub number : ℕ
  pub name : Units
  pub parameters : List Units

abbrev pub signal_in : NameRow → Option NamedSignal
signal_in r = elim (r.finds) as (λ _. Option NamedSignal) [
  | finds_signal s parameters ↦ Some (record { number = signal_no s; name = r.name; parameters = parameters })
  | _ ↦ None
]

abbrev pub signals_written : AllRows → Planned → List NamedSignal
signals_written units x = filter_map signal_in (names_written units x)

abbrev pub no_signal : NamedSignal
no_signal = record { number = 0; name = []; parameters = [] }

abbrev pub signal_at : AllRows → Planned → ℕ → NamedSignal
signal_at units x n = unwrap_or (find (λ (s : NamedSignal). nat_eq s.number n) (signals_written units x)) no_signal

-- ---- the object of a number

abbrev pub written_at : Machine → ObjNo → Option Planned
written_at m o = planned_at m.written o.0

abbrev pub builtin_in : Machine → ObjNo → TypeNo
builtin_in m o = unwrap_or (option_map (builtin_planned m.units) (written_at m o)) no.QtObject

abbrev pub is_condemned_object : ObjNo → Object → Bool
is_condemned_object o x = nat_eq x.number.0 o.0 && x.condemned

abbrev pub is_condemned : Machine → ObjNo → Bool
is_condemned m o = list_any (is_condemned_object o) m.tree.objects

-- ---- the reaction of an object to a change of one of its properties

-- the change of the property at a place has twice the number
abbrev pub reaction_at : TypeNo → ℕ → Option Units
reaction_at no.Connections n = if nat_eq n (2 * 1) then Some (codes "target") else None
reaction_at t n = None

abbrev pub reaction_to : TypeNo → Signal → Option Units
reaction_to t (numbered n) = reaction_at t n
reaction_to t _ = None

abbrev pub delivery : ObjNo → Bool → Deed → Delivery
delivery o aimed deed = record { object = o; deed = deed; is_aimed = aimed }

abbrev pub of_option : {A B : Type 0} → (A → B) → Option A → List B
of_option f None = []
of_option f (Some a) = f a ∷ []

-- ---- the handlers of the object

abbrev pub is_for : SignalRef → Signal → Bool
is_for (change_of place) (numbered n) = nat_eq (2 * place) n
is_for (own_signal k) (numbered n) = nat_eq (2 * k + 1) n
is_for on_completed completed = true
is_for on_destruction destruction = true
is_for _ _ = false

-- the handler's name as it is told
abbrev pub handler_name : AllRows → Planned → Signal → Units
handler_name units x (numbered n) = handler_of (signal_at units x n).name
handler_name units x completed = codes "onCompleted"
handler_name units x destruction = codes "onDestruction"

abbrev pub own_handler : Machine → Planned → ObjNo → Signal → List Value → SignalRef × ExprNo → List Delivery
own_handler m x o s args h = elim (is_for h.0 s) [
  | true ↦ delivery o false (runs (handler_name m.units x s) h.1 [] args) ∷ []
  | false ↦ []
]

abbrev pub own_handlers : Machine → ObjNo → Signal → List Value → Option Planned → List Delivery
own_handlers m o s args None = []
own_handlers m o s args (Some x) = flat_map (own_handler m x o s args) (handlers_written m.units x)

-- ---- Connections

abbrev pub is_object : ObjNo → Value → Bool
is_object o (AnObject p) = nat_eq p.0 o.0
is_object o (AComponent p) = nat_eq p.0 o.0
is_object o v = false

-- whether it is enabled and the object is its target
abbrev pub is_enabled_on : Machine → ObjNo → ObjNo → Bool
is_enabled_on m c o = is_set (held_in m (cell_at c 2)) && is_object o (held_in m (cell_at c 1))

abbrev pub aims_at : Machine → ObjNo → ObjNo → Bool
aims_at m o c = same_type no.Connections (builtin_in m c) && (not (is_condemned m c) && is_enabled_on m c o)

abbrev pub aimed_name : SignalRef → Option Units
aimed_name (of_target name) = Some name
aimed_name _ = None

abbrev pub is_aimed_by : Units → SignalRef → Bool
is_aimed_by handler s = unwrap_or (option_map (bytes_eq handler) (aimed_name s)) false

abbrev pub aimed_handler : ObjNo → NamedSignal → List Value → SignalRef × ExprNo → List Delivery
aimed_handler c signal args h = elim (is_aimed_by (handler_of signal.name) h.0) [
  | true ↦ delivery c true (runs (handler_of signal.name) h.1 signal.parameters args) ∷ []
  | false ↦ []
]

abbrev pub handlers_aimed : Machine → NamedSignal → List Value → ObjNo → List Delivery
handlers_aimed m signal args c =
    flat_map (aimed_handler c signal args) (unwrap_or (option_map (handlers_written m.units) (written_at m c)) [])

abbrev pub connections : Machine → ObjNo → NamedSignal → List Value → List Object → List Delivery
connections m o signal args [] = []
connections m o signal args (x ∷ rest) = elim (aims_at m o x.number) [
  | true ↦ handlers_aimed m signal args x.number ++ connections m o signal args rest
  | false ↦ connections m o signal args rest
]

-- the attached handlers are for the object alone
abbrev pub aimed_handlers : Machine → ObjNo → Signal → List Value → Option Planned → List Delivery
aimed_handlers m o (numbered n) args (Some x) = connections m o (signal_at m.units x n) args m.tree.objects
aimed_handlers m o s args _ = []

-- ---- all of them, in order

abbrev pub deliveries : Machine → ObjNo → Signal → List Value → List Delivery
deliveries m o s args =
    of_option (λ what. delivery o false (reacts what)) (reaction_to (builtin_in m o) s) ++
    own_handlers m o s args (written_at m o) ++
    aimed_handlers m o s args (written_at m o)
