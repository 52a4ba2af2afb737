-- Which deliveries the live Connections bring at a signal of an object.
use Rattle.std.specs.Prelude.{ℕ, nat_eq, Bool, true, false, not, ◌&&◌, List, [], ◌∷◌, ◌++◌, Option}
use Rattle.std.specs.Str.{bytes_eq}
use Rattle.std.specs.Option.{option_map, unwrap_or}
use Rattle.std.specs.List.{flat_map}
use Rattle.qml_base.specs.declared.numbers.ObjNo.{ObjNo}
use Rattle.qml_base.specs.declared.numbers.ExprNo.{ExprNo}
use Rattle.qml_syntax.specs.Tree.{Units}
use Rattle.qml_value.specs.declared.value.Value.{Value, Object as AnObject, Component as AComponent}
use Rattle.qml_types.specs.declared.kind.TypeNo.TheVariants as no
use Rattle.program_names.specs.Layers.{same_type}
use Rattle.tree_model.specs.declared.cells.Object.{Object}
use Rattle.unit_rows.specs.declared.names.SignalRef.{SignalRef}
use Rattle.machine_model.specs.State.{Machine, runs, Delivery}
use Rattle.machine_model.specs.Dispatch.{handlers_written, written_at, builtin_in, is_condemned, is_enabled_on, aimed_name}

abbrev pub is_number : ObjNo → ObjNo → Bool
is_number o n = nat_eq n.0 o.0

abbrev pub is_condemned_one : ObjNo → Object → Bool
is_condemned_one o x = nat_eq x.number.0 o.0 && x.condemned

-- whether a value is the object
abbrev pub is_object : ObjNo → Value → Bool
is_object o (AnObject p) = nat_eq p.0 o.0
is_object o (AComponent p) = nat_eq p.0 o.0
is_object o v = false

-- whether a handler is the one of this name for a signal of a target
abbrev pub is_for_target : Units → SignalRef → Bool
is_for_target handler s = unwrap_or (option_map (bytes_eq handler) (aimed_name s)) false

-- a signal of an object as a Connections hears it: the handler's name, the names of the parameters, and the arguments
pub record Hears : Type 0 where
  pub object : ObjNo
  pub handler : Units
  pub parameters : List Units
  pub args : List Value

abbrev pub delivered : Hears → ObjNo → ExprNo → Delivery
delivered e c body = record { object = c; deed = runs e.handler body e.parameters e.args; is_aimed = true }

abbrev pub heard : Hears → ObjNo → SignalRef × ExprNo → List Delivery
heard e c h = elim (is_for_target e.handler (h.0)) [
  | true ↦ delivered e c (h.1) ∷ []
  | false ↦ []
]

-- the handlers of one Connections
abbrev pub all_heard : Machine → Hears → ObjNo → List Delivery
all_heard m e c = flat_map (heard e c) (unwrap_or (option_map (handlers_written m.units) (written_at m c)) [])

-- a Connections that isn't condemned, is enabled, and has the object as its target
abbrev pub listens : Machine → ObjNo → ObjNo → Bool
listens m o c = same_type no.Connections (builtin_in m c) && (not (is_condemned m c) && is_enabled_on m c o)

abbrev pub heard_if : Machine → Hears → ObjNo → List Delivery
heard_if m e c = elim (listens m e.object c) [
  | true ↦ all_heard m e c
  | false ↦ []
]

-- of all objects, in order
abbrev pub heard_by_all : Machine → Hears → List Object → List Delivery
heard_by_all m e objects = flat_map (λ (x : Object). heard_if m e x.number) objects
