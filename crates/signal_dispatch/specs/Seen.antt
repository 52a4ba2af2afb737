-- What a Connections hears, by the rows of handlers.
use Rattle.std.specs.Prelude.{ℕ, List}
use Rattle.std.specs.List.{flat_map}
use Rattle.qml_base.specs.declared.numbers.ObjNo.{ObjNo}
use Rattle.unit_rows.specs.declared.names.HandlerRow.{HandlerRow}
use Rattle.unit_rows.specs.Seen.{all_seen}
use Rattle.instance_plans.specs.Numbers.{row_at}
use Rattle.machine_model.specs.State.{Delivery}
use Rattle.own_handlers.specs.Emitting.{with_body}
use Rattle.signal_dispatch.specs.declared.aimed.Heard.{Heard}
use Rattle.signal_dispatch.specs.Hearing.{Hears, heard}

abbrev pub hears : Heard → Hears
hears e = record { object = e.object; handler = e.handler.now; parameters = e.parameters.now; args = e.args.now }

-- of a handler, of handlers of a document, and of all those of its root
abbrev pub row_heard : Heard → ObjNo → ℕ → HandlerRow → List Delivery
row_heard e c u h = heard (hears e) c (with_body u h)

abbrev pub rows_heard : Heard → ObjNo → ℕ → List HandlerRow → List Delivery
rows_heard e c u rows = flat_map (row_heard e c u) rows

abbrev pub root_heard : Heard → ObjNo → ℕ → List Delivery
root_heard e c u = rows_heard e c u (row_at (all_seen e.units.now) u 0).handlers
