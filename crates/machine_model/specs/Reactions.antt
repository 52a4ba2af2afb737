-- What objects do when they start and when one of their properties changes.
use Rattle.std.specs.Prelude.{Bool, not, List, [], Option, Some, None}
use Rattle.std.specs.Str.{bytes_eq}
use Rattle.std.specs.List.{filter, filter_map, list_any}
use Rattle.qml_base.specs.declared.numbers.ObjNo.{ObjNo}
use Rattle.qml_base.specs.declared.numbers.ExprNo.{ExprNo}
use Rattle.qml_base.specs.declared.cause.Cause.TheVariants as cause
use Rattle.qml_syntax.specs.Tree.{Units}
use Rattle.qml_value.specs.declared.value.Value.{Value, Object, Component}
use Rattle.qml_types.specs.declared.kind.TypeNo.{TypeNo}
use Rattle.qml_types.specs.declared.kind.TypeNo.TheVariants as no
use Rattle.program_names.specs.Names.{handler_of}
use Rattle.tree_model.specs.Rules.{cell_at, is_set}
use Rattle.trace_print.specs.declared.entry.Entry.{Entry}
use Rattle.trace_print.specs.declared.entry.Entry.TheVariants as entry
use Rattle.trace_print.specs.declared.entry.Site.TheVariants as site
use Rattle.unit_rows.specs.declared.names.SignalRef.{SignalRef}
use Rattle.instance_plans.specs.declared.planned.Planned.{Planned}
use Rattle.machine_model.specs.State.{Machine}
use Rattle.machine_model.specs.Acts.{Done, nothing, each, by_test, tell}
use Rattle.machine_model.specs.Showing.{held_in}
use Rattle.machine_model.specs.Dispatch.{NamedSignal, handlers_written, signals_written, written_at, builtin_in, aimed_name}

-- ---- Connections: a report for each handler whose signal the target hasn't, unless these are ignored

abbrev pub handlers_named : Machine → Option Planned → List Units
handlers_named m None = []
handlers_named m (Some x) = filter_map (λ (h : SignalRef × ExprNo). aimed_name (h.0)) (handlers_written m.units x)

abbrev pub has_signal : List NamedSignal → Units → Bool
has_signal signals handler = list_any (λ (s : NamedSignal). bytes_eq (handler_of s.name) handler) signals

abbrev pub signals_in : Machine → Option Planned → List NamedSignal
signals_in m None = []
signals_in m (Some x) = signals_written m.units x

abbrev pub unheard : Machine → ObjNo → ObjNo → List Units
unheard m c target =
    filter (λ handler. not (has_signal (signals_in m (written_at m target)) handler)) (handlers_named m (written_at m c))

abbrev pub unheard_entry : ObjNo → Units → Entry
unheard_entry c handler = entry.ThrewReport (site.Handler c handler) cause.Name

abbrev pub report_unheard : ObjNo → Units → Done
report_unheard c handler = tell (unheard_entry c handler)

abbrev pub report_all : ObjNo → ObjNo → Done
report_all c target m = each (report_unheard c) (unheard m c target) m

abbrev pub aim : ObjNo → Value → Done
aim c (Object target) = report_all c target
aim c (Component target) = report_all c target
aim c v = nothing

abbrev pub ignores : Machine → ObjNo → Bool
ignores m c = is_set (held_in m (cell_at c 3))

abbrev pub target_held : Machine → ObjNo → Value
target_held m c = held_in m (cell_at c 1)

abbrev pub connect : ObjNo → Done
connect c m = by_test (ignores m c) nothing (aim c (target_held m c)) m

-- ---- by the type

abbrev pub react_as : TypeNo → ObjNo → Done
react_as no.Connections o = connect o
react_as t o = nothing

abbrev pub react : ObjNo → Done
react o m = react_as (builtin_in m o) o m
