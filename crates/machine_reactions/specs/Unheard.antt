-- The handlers of a Connections for which its target has no signal.
use Rattle.std.specs.Prelude.{ℕ, Bool, true, false, List, [], ◌∷◌, Option, Some, None}
use Rattle.std.specs.Str.{bytes_eq}
use Rattle.std.specs.List.{flat_map, list_any}
use Rattle.qml_base.specs.declared.numbers.ObjNo.{ObjNo}
use Rattle.qml_base.specs.declared.numbers.ExprNo.{ExprNo}
use Rattle.qml_syntax.specs.Tree.{Units}
use Rattle.qml_value.specs.declared.value.Value.{Value, Object as AnObject, Component as AComponent}
use Rattle.program_names.specs.Names.{handler_of}
use Rattle.unit_rows.specs.declared.names.SignalRef.{SignalRef}
use Rattle.unit_rows.specs.declared.names.SignalRef.TheVariants.{OfTarget as of_target}
use Rattle.unit_rows.specs.declared.names.HandlerRow.{HandlerRow}
use Rattle.unit_rows.specs.declared.names.NameRow.{NameRow}
use Rattle.unit_rows.specs.declared.names.NameFinds.TheVariants.{Signal as finds_signal}
use Rattle.instance_plans.specs.Numbers.{AllRows, row_at}
use Rattle.instance_plans.specs.declared.planned.Planned.{Planned}
use Rattle.machine_model.specs.Dispatch.{names_written, handlers_written}

-- whether a name finds a signal for which the handler is
abbrev pub is_signal_of : Units → NameRow → Bool
is_signal_of handler r = elim (r.finds) as (λ _. Bool) [
  | finds_signal s parameters ↦ bytes_eq (handler_of r.name) handler
  | _ ↦ false
]

-- of an object as it is written; of one that isn't there nothing is heard
abbrev pub has_signal_of : AllRows → Option Planned → Units → Bool
has_signal_of units None handler = false
has_signal_of units (Some x) handler = list_any (is_signal_of handler) (names_written units x)

abbrev pub unless_heard : Bool → Units → List Units
unless_heard true name = []
unless_heard false name = name ∷ []

abbrev pub unheard_signal : AllRows → Option Planned → SignalRef → List Units
unheard_signal units target (of_target name) = unless_heard (has_signal_of units target name) name
unheard_signal units target _ = []

-- of a handler, of handlers of a document, of those of its root, and of all that a Connections is written with
abbrev pub unheard_row : AllRows → Option Planned → HandlerRow → List Units
unheard_row units target h = unheard_signal units target h.signal

abbrev pub unheard_rows : AllRows → Option Planned → List HandlerRow → List Units
unheard_rows units target rows = flat_map (unheard_row units target) rows

abbrev pub unheard_root : AllRows → Option Planned → ℕ → List Units
unheard_root units target u = unheard_rows units target (row_at units u 0).handlers

abbrev pub unheard_handler : AllRows → Option Planned → SignalRef × ExprNo → List Units
unheard_handler units target h = unheard_signal units target (h.0)

abbrev pub unheard_written : AllRows → Option Planned → Planned → List Units
unheard_written units target x = flat_map (unheard_handler units target) (handlers_written units x)

-- the object that a value names
abbrev pub object_in : Value → Option ObjNo
object_in (AnObject o) = Some o
object_in (AComponent o) = Some o
object_in v = None
