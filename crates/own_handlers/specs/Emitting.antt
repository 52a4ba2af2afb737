-- The deliveries at a signal that is emitted, by the rows of handlers.
use Rattle.std.specs.Prelude.{ℕ, List}
use Rattle.std.specs.List.{flat_map}
use Rattle.unit_rows.specs.declared.names.SignalRef.{SignalRef}
use Rattle.unit_rows.specs.declared.names.HandlerRow.{HandlerRow}
use Rattle.unit_rows.specs.Seen.{all_seen}
use Rattle.qml_base.specs.declared.numbers.ExprNo.{ExprNo}
use Rattle.instance_plans.specs.Numbers.{row_at}
use Rattle.machine_model.specs.State.{Delivery}
use Rattle.own_handlers.specs.declared.handlers.Emitted.{Emitted}
use Rattle.own_handlers.specs.Seen.{signal_seen}
use Rattle.own_handlers.specs.Own.{body_at, delivery_if}

abbrev pub with_body : ℕ → HandlerRow → SignalRef × ExprNo
with_body u h = (h.signal, body_at u h.body)

-- of a handler, of handlers of a document, and of all those of its root
abbrev pub handled : Emitted → ℕ → HandlerRow → List Delivery
handled e u h = delivery_if (all_seen e.units.now) e.written e.object (signal_seen e.signal) e.args.now (with_body u h)

abbrev pub deliveries_of : Emitted → ℕ → List HandlerRow → List Delivery
deliveries_of e u handlers = flat_map (handled e u) handlers

abbrev pub all_of : Emitted → ℕ → List Delivery
all_of e u = deliveries_of e u (row_at (all_seen e.units.now) u 0).handlers
