-- The handlers for which the target has no signal are those of the definition.
use Rattle.std.proofs.Common.{◌≡◌, ◌∙◌, ap, sym, refl, ℕ, Bool, true, false, not, cond, List, [], ◌∷◌, ◌++◌, append_assoc, append-nil, map, Option, Some, None}
use Rattle.std.proofs.lemmas.Grind.{flat_map-append}
use Rattle.std.proofs.lemmas.List.Folds.{flat_map-map}
use Rattle.std.specs.Str.{bytes_eq}
use Rattle.std.specs.List.{filter, filter_map, flat_map}
use Rattle.std.specs.Option.{option_map, unwrap_or}
use Rattle.qml_base.specs.declared.numbers.ObjNo.{ObjNo}
use Rattle.qml_base.specs.declared.numbers.ExprNo.{ExprNo}
use Rattle.qml_syntax.specs.Tree.{Units}
use Rattle.program_names.specs.Names.{handler_of}
use Rattle.unit_rows.specs.declared.names.SignalRef.{SignalRef}
use Rattle.unit_rows.specs.declared.names.SignalRef.TheVariants.{Change as change_of, Own as own_signal, OfTarget as of_target, Completed as on_completed, Destruction as on_destruction}
use Rattle.unit_rows.specs.declared.names.HandlerRow.{HandlerRow}
use Rattle.unit_rows.specs.declared.names.NameRow.{NameRow}
use Rattle.unit_rows.specs.declared.names.NameFinds.{NameFinds}
use Rattle.unit_rows.specs.declared.names.NameFinds.TheVariants.{Cell as finds_cell, Signal as finds_signal, Function as finds_function, Method as finds_method, Object as finds_object, CellOf as finds_cell_of}
use Rattle.instance_plans.specs.Numbers.{AllRows, row_at, documents_of}
use Rattle.instance_plans.specs.NamesMade.{signal_no}
use Rattle.instance_plans.specs.declared.planned.Planned.{Planned}
use Rattle.machine_model.specs.State.{Machine}
use Rattle.machine_model.specs.Dispatch.{NamedSignal, names_written, handlers_written, written_at, aimed_name}
use Rattle.machine_model.specs.Reactions.{handlers_named, has_signal, signals_in, unheard}
use Rattle.own_handlers.specs.Emitting.{with_body}
use Rattle.machine_reactions.specs.Unheard.{is_signal_of, has_signal_of, unless_heard, unheard_rows, unheard_root, unheard_handler, unheard_written}
use Rattle.machine_reactions.proofs.AnyLemmas.{any_through}

-- ---- the signals of the target

abbrev signal_in : NameRow → Option NamedSignal
signal_in r = elim (r.finds) as (λ _. Option NamedSignal) [
  | finds_signal s parameters ↦ Some (record { number = signal_no s; name = r.name; parameters = parameters })
  | _ ↦ None
]

abbrev handles : Units → NamedSignal → Bool
handles handler s = bytes_eq (handler_of s.name) handler

tests : (f : NameFinds) (name handler : Units)
    → is_signal_of handler (record { name = name; finds = f }) ≡ unwrap_or (option_map (handles handler) (signal_in (record { name = name; finds = f }))) false
tests (finds_signal s parameters) name handler = refl
tests (finds_cell p a) name handler = refl
tests (finds_function b) name handler = refl
tests finds_method name handler = refl
tests (finds_object w) name handler = refl
tests (finds_cell_of w p a) name handler = refl

signals_same : (m : Machine) (w : Option Planned) (handler : Units) → has_signal (signals_in m w) handler ≡ has_signal_of m.units w handler
signals_same m None handler = refl
signals_same m (Some x) handler = any_through signal_in (handles handler) (is_signal_of handler) (λ r. tests r.finds r.name handler) (names_written m.units x)

-- ---- the handlers

abbrev Handler : Type 0
Handler = SignalRef × ExprNo

abbrev name_in : Handler → Option Units
name_in h = aimed_name (h.0)

abbrev is_unheard : Machine → Option Planned → Units → Bool
is_unheard m w handler = not (has_signal (signals_in m w) handler)

one_kept : (b c : Bool) (name : Units) (kept rest : List Units) → b ≡ c → kept ≡ rest → cond (not b) (name ∷ kept) kept ≡ unless_heard c name ++ rest
one_kept true c name kept rest e h = h ∙ ap (λ d. unless_heard d name ++ rest) e
one_kept false c name kept rest e h = ap (λ ns. name ∷ ns) h ∙ ap (λ d. unless_heard d name ++ rest) e

all_kept : (m : Machine) (w : Option Planned) (hs : List Handler) → filter (is_unheard m w) (filter_map name_in hs) ≡ flat_map (unheard_handler m.units w) hs
all_kept m w [] = refl
all_kept m w ((of_target n, body) ∷ hs) =
    one_kept (has_signal (signals_in m w) n) (has_signal_of m.units w n) n (filter (is_unheard m w) (filter_map name_in hs)) (flat_map (unheard_handler m.units w) hs)
    (signals_same m w n) (all_kept m w hs)
all_kept m w ((change_of place, body) ∷ hs) = all_kept m w hs
all_kept m w ((own_signal k, body) ∷ hs) = all_kept m w hs
all_kept m w ((on_completed, body) ∷ hs) = all_kept m w hs
all_kept m w ((on_destruction, body) ∷ hs) = all_kept m w hs

-- the definition, where it is known how the Connections is written
abbrev unheard_by : Machine → ObjNo → Option Planned → List Units
unheard_by m target x = filter (is_unheard m (written_at m target)) (handlers_named m x)

pub unheard_of_all : (m : Machine) (c target : ObjNo) (x : Planned) (w : Option Planned) (list : List Units) → written_at m c ≡ Some x → w ≡ written_at m target
    → list ≡ [] ++ unheard_written m.units w x → list ≡ unheard m c target
unheard_of_all m c target x w list is same e =
    e ∙ ap (λ o. unheard_written m.units o x) same ∙ sym (all_kept m (written_at m target) (handlers_written m.units x)) ∙ ap (unheard_by m target) (sym is)

pub unheard_of_none : (m : Machine) (c target : ObjNo) (list : List Units) → written_at m c ≡ None → list ≡ [] → list ≡ unheard m c target
unheard_of_none m c target list is e = e ∙ ap (unheard_by m target) (sym is)

-- ---- by the rows

abbrev of_root : AllRows → ℕ → List Handler
of_root units u = map (with_body u) (row_at units u 0).handlers

mapped : (units : AllRows) (w : Option Planned) (u : ℕ) (rows : List HandlerRow) → flat_map (unheard_handler units w) (map (with_body u) rows) ≡ unheard_rows units w rows
mapped units w u rows = flat_map-map (unheard_handler units w) (with_body u) rows

nested : (units : AllRows) (w : Option Planned) (us : List ℕ) → flat_map (unheard_handler units w) (flat_map (of_root units) us) ≡ flat_map (unheard_root units w) us
nested units w [] = refl
nested units w (u ∷ us) =
    flat_map-append (unheard_handler units w) (of_root units u) (flat_map (of_root units) us)
    ∙ ap (λ ds. ds ++ flat_map (unheard_handler units w) (flat_map (of_root units) us)) (mapped units w u (row_at units u 0).handlers)
    ∙ ap (λ ds. unheard_root units w u ++ ds) (nested units w us)

abbrev written_if : AllRows → Planned → Bool → List Handler
written_if units x b =
    let r = row_at units x.unit x.object in
    elim b as (λ _. List Handler) [
      | true ↦ []
      | false ↦ flat_map (of_root units) (documents_of units r.of_type) ++ map (with_body x.unit) r.handlers
    ]

pub none_around : (units : AllRows) (w : Option Planned) (x : Planned) (old : List Units) → x.is_around ≡ true → old ≡ old ++ unheard_written units w x
none_around units w x old is = sym (append-nil old) ∙ ap (λ b. old ++ flat_map (unheard_handler units w) (written_if units x b)) (sym is)

pub all_unheard : (units : AllRows) (w : Option Planned) (x : Planned) (documents : List ℕ) (rows : List HandlerRow) (old mid new : List Units) → x.is_around ≡ false
    → documents ≡ documents_of units (row_at units x.unit x.object).of_type → rows ≡ (row_at units x.unit x.object).handlers
    → mid ≡ old ++ flat_map (unheard_root units w) documents → new ≡ mid ++ unheard_rows units w rows
    → new ≡ old ++ unheard_written units w x
all_unheard units w x documents rows old mid new is of_type of_text first then =
    let r = row_at units x.unit x.object in
    let us = documents_of units r.of_type in
    let f = unheard_handler units w in
    then
    ∙ ap (λ ds. ds ++ unheard_rows units w rows) first
    ∙ append_assoc old (flat_map (unheard_root units w) documents) (unheard_rows units w rows)
    ∙ ap (λ ds. old ++ (flat_map (unheard_root units w) ds ++ unheard_rows units w rows)) of_type
    ∙ ap (λ hs. old ++ (flat_map (unheard_root units w) us ++ unheard_rows units w hs)) of_text
    ∙ ap (λ ds. old ++ (ds ++ unheard_rows units w r.handlers)) (sym (nested units w us))
    ∙ ap (λ ds. old ++ (flat_map f (flat_map (of_root units) us) ++ ds)) (sym (mapped units w x.unit r.handlers))
    ∙ ap (λ ds. old ++ ds) (sym (flat_map-append f (flat_map (of_root units) us) (map (with_body x.unit) r.handlers)))
    ∙ ap (λ b. old ++ flat_map f (written_if units x b)) (sym is)
