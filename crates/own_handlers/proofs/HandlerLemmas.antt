-- The deliveries of all handlers that an object is written with.
use Rattle.std.proofs.Common.{◌≡◌, ◌∙◌, ap, sym, refl, ℕ, Bool, true, false, List, [], ◌∷◌, ◌++◌, append_assoc, append-nil, map}
use Rattle.std.proofs.lemmas.Grind.{flat_map-append}
use Rattle.std.specs.List.{flat_map}
use Rattle.qml_base.specs.declared.numbers.ExprNo.{ExprNo}
use Rattle.unit_rows.specs.declared.names.SignalRef.{SignalRef}
use Rattle.unit_rows.specs.declared.names.HandlerRow.{HandlerRow}
use Rattle.unit_rows.specs.Seen.{all_seen}
use Rattle.instance_plans.specs.Numbers.{AllRows, row_at, documents_of}
use Rattle.instance_plans.specs.declared.planned.Planned.{Planned}
use Rattle.machine_model.specs.State.{Delivery}
use Rattle.machine_model.specs.Dispatch.{handlers_written}
use Rattle.own_handlers.specs.declared.handlers.Emitted.{Emitted}
use Rattle.own_handlers.specs.Seen.{signal_seen}
use Rattle.own_handlers.specs.Own.{delivery_if, own_deliveries}
use Rattle.own_handlers.specs.Emitting.{with_body, handled, deliveries_of, all_of}

abbrev of_handler : Emitted → SignalRef × ExprNo → List Delivery
of_handler e h = delivery_if (all_seen e.units.now) e.written e.object (signal_seen e.signal) e.args.now h

mapped : (e : Emitted) (u : ℕ) (hs : List HandlerRow) → flat_map (of_handler e) (map (with_body u) hs) ≡ deliveries_of e u hs
mapped e u [] = refl
mapped e u (h ∷ hs) = ap (λ ds. of_handler e (with_body u h) ++ ds) (mapped e u hs)

abbrev of_root : Emitted → ℕ → List (SignalRef × ExprNo)
of_root e u = map (with_body u) (row_at (all_seen e.units.now) u 0).handlers

nested : (e : Emitted) (us : List ℕ) → flat_map (of_handler e) (flat_map (of_root e) us) ≡ flat_map (all_of e) us
nested e [] = refl
nested e (u ∷ us) =
    flat_map-append (of_handler e) (of_root e u) (flat_map (of_root e) us)
    ∙ ap (λ ds. ds ++ flat_map (of_handler e) (flat_map (of_root e) us)) (mapped e u (row_at (all_seen e.units.now) u 0).handlers)
    ∙ ap (λ ds. all_of e u ++ ds) (nested e us)

abbrev written_by : Emitted → Bool → List (SignalRef × ExprNo)
written_by e b =
    let r = row_at (all_seen e.units.now) e.written.unit e.written.object in
    elim b as (λ _. List (SignalRef × ExprNo)) [
      | true ↦ []
      | false ↦ flat_map (of_root e) (documents_of (all_seen e.units.now) r.of_type) ++ map (with_body e.written.unit) r.handlers
    ]

pub none_around : (e : Emitted) (old : List Delivery) → e.written.is_around ≡ true
    → old ≡ old ++ own_deliveries (all_seen e.units.now) e.written e.object (signal_seen e.signal) e.args.now
none_around e old is = sym (append-nil old) ∙ ap (λ b. old ++ flat_map (of_handler e) (written_by e b)) (sym is)

pub all_own : (e : Emitted) (documents : List ℕ) (handlers : List HandlerRow) (old mid new : List Delivery) → e.written.is_around ≡ false
    → documents ≡ documents_of (all_seen e.units.now) (row_at (all_seen e.units.now) e.written.unit e.written.object).of_type
    → handlers ≡ (row_at (all_seen e.units.now) e.written.unit e.written.object).handlers
    → mid ≡ old ++ flat_map (all_of e) documents → new ≡ mid ++ deliveries_of e e.written.unit handlers
    → new ≡ old ++ own_deliveries (all_seen e.units.now) e.written e.object (signal_seen e.signal) e.args.now
all_own e documents handlers old mid new is of_type of_text first then =
    let r = row_at (all_seen e.units.now) e.written.unit e.written.object in
    let us = documents_of (all_seen e.units.now) r.of_type in
    then
    ∙ ap (λ ds. ds ++ deliveries_of e e.written.unit handlers) first
    ∙ append_assoc old (flat_map (all_of e) documents) (deliveries_of e e.written.unit handlers)
    ∙ ap (λ ds. old ++ (flat_map (all_of e) ds ++ deliveries_of e e.written.unit handlers)) of_type
    ∙ ap (λ hs. old ++ (flat_map (all_of e) us ++ deliveries_of e e.written.unit hs)) of_text
    ∙ ap (λ ds. old ++ (ds ++ deliveries_of e e.written.unit r.handlers)) (sym (nested e us))
    ∙ ap (λ ds. old ++ (flat_map (of_handler e) (flat_map (of_root e) us) ++ ds)) (sym (mapped e e.written.unit r.handlers))
    ∙ ap (λ ds. old ++ ds) (sym (flat_map-append (of_handler e) (flat_map (of_root e) us) (map (with_body e.written.unit) r.handlers)))
    ∙ ap (λ b. old ++ flat_map (of_handler e) (written_by e b)) (sym is)
