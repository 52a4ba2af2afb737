-- The deliveries of all handlers that a Connections is written with.
use Rattle.std.proofs.Common.{◌≡◌, ◌∙◌, ap, sym, refl, ℕ, Bool, true, false, List, [], ◌∷◌, ◌++◌, append_assoc, append-nil, map}
use Rattle.std.proofs.lemmas.Grind.{flat_map-append}
use Rattle.std.proofs.lemmas.List.Folds.{flat_map-map}
use Rattle.std.specs.List.{flat_map}
use Rattle.qml_base.specs.declared.numbers.ObjNo.{ObjNo}
use Rattle.qml_base.specs.declared.numbers.ExprNo.{ExprNo}
use Rattle.unit_rows.specs.declared.names.SignalRef.{SignalRef}
use Rattle.unit_rows.specs.declared.names.HandlerRow.{HandlerRow}
use Rattle.unit_rows.specs.Seen.{all_seen}
use Rattle.instance_plans.specs.Numbers.{AllRows, row_at, documents_of}
use Rattle.instance_plans.specs.declared.planned.Planned.{Planned}
use Rattle.machine_model.specs.State.{Delivery}
use Rattle.machine_model.specs.Dispatch.{handlers_written}
use Rattle.own_handlers.specs.Emitting.{with_body}
use Rattle.signal_dispatch.specs.declared.aimed.Heard.{Heard}
use Rattle.signal_dispatch.specs.Hearing.{heard}
use Rattle.signal_dispatch.specs.Seen.{hears, row_heard, rows_heard, root_heard}

abbrev Handler : Type 0
Handler = SignalRef × ExprNo

abbrev of_root : AllRows → ℕ → List Handler
of_root units u = map (with_body u) (row_at units u 0).handlers

mapped : (e : Heard) (c : ObjNo) (u : ℕ) (rows : List HandlerRow) → flat_map (heard (hears e) c) (map (with_body u) rows) ≡ rows_heard e c u rows
mapped e c u rows = flat_map-map (heard (hears e) c) (with_body u) rows

nested : (e : Heard) (c : ObjNo) (us : List ℕ) → flat_map (heard (hears e) c) (flat_map (of_root (all_seen e.units.now)) us) ≡ flat_map (root_heard e c) us
nested e c [] = refl
nested e c (u ∷ us) =
    flat_map-append (heard (hears e) c) (of_root (all_seen e.units.now) u) (flat_map (of_root (all_seen e.units.now)) us)
    ∙ ap (λ ds. ds ++ flat_map (heard (hears e) c) (flat_map (of_root (all_seen e.units.now)) us)) (mapped e c u (row_at (all_seen e.units.now) u 0).handlers)
    ∙ ap (λ ds. root_heard e c u ++ ds) (nested e c us)

abbrev written_if : AllRows → Planned → Bool → List Handler
written_if units x b =
    let r = row_at units x.unit x.object in
    elim b as (λ _. List Handler) [
      | true ↦ []
      | false ↦ flat_map (of_root units) (documents_of units r.of_type) ++ map (with_body x.unit) r.handlers
    ]

pub none_around : (e : Heard) (c : ObjNo) (x : Planned) (old : List Delivery) → x.is_around ≡ true
    → old ≡ old ++ flat_map (heard (hears e) c) (handlers_written (all_seen e.units.now) x)
none_around e c x old is = sym (append-nil old) ∙ ap (λ b. old ++ flat_map (heard (hears e) c) (written_if (all_seen e.units.now) x b)) (sym is)

pub all_heard : (e : Heard) (c : ObjNo) (x : Planned) (documents : List ℕ) (rows : List HandlerRow) (old mid new : List Delivery) → x.is_around ≡ false
    → documents ≡ documents_of (all_seen e.units.now) (row_at (all_seen e.units.now) x.unit x.object).of_type
    → rows ≡ (row_at (all_seen e.units.now) x.unit x.object).handlers
    → mid ≡ old ++ flat_map (root_heard e c) documents → new ≡ mid ++ rows_heard e c x.unit rows
    → new ≡ old ++ flat_map (heard (hears e) c) (handlers_written (all_seen e.units.now) x)
all_heard e c x documents rows old mid new is of_type of_text first then =
    let units = all_seen e.units.now in
    let r = row_at units x.unit x.object in
    let us = documents_of units r.of_type in
    then
    ∙ ap (λ ds. ds ++ rows_heard e c x.unit rows) first
    ∙ append_assoc old (flat_map (root_heard e c) documents) (rows_heard e c x.unit rows)
    ∙ ap (λ ds. old ++ (flat_map (root_heard e c) ds ++ rows_heard e c x.unit rows)) of_type
    ∙ ap (λ hs. old ++ (flat_map (root_heard e c) us ++ rows_heard e c x.unit hs)) of_text
    ∙ ap (λ ds. old ++ (ds ++ rows_heard e c x.unit r.handlers)) (sym (nested e c us))
    ∙ ap (λ ds. old ++ (flat_map (heard (hears e) c) (flat_map (of_root units) us) ++ ds)) (sym (mapped e c x.unit r.handlers))
    ∙ ap (λ ds. old ++ ds) (sym (flat_map-append (heard (hears e) c) (flat_map (of_root units) us) (map (with_body x.unit) r.handlers)))
    ∙ ap (λ b. old ++ flat_map (heard (hears e) c) (written_if units x b)) (sym is)
