-- The handlers by the tables are those of the program.
use Rattle.std.proofs.Common.{◌≡◌, ◌∙◌, ap, refl, ℕ, Bool, true, false, List, [], ◌∷◌, ◌++◌, map, Option, Some, None}
use Rattle.std.specs.Prelude.{◌&&◌, if◌then◌else◌, codes}
use Rattle.std.specs.Str.{bytes_eq}
use Rattle.std.specs.List.{flat_map, filter_map, cons_option}
use Rattle.qml_base.specs.declared.numbers.Place.{Place}
use Rattle.qml_syntax.specs.Tree.{Units, Function}
use Rattle.qml_types.specs.declared.kind.TypeNo.TheVariants as no
use Rattle.qml_types.specs.declared.kind.TypeRef.TheVariants.{Builtin}
use Rattle.program_names.specs.Names.{is_handler_name, handler_of}
use Rattle.program_names.specs.Written.{WrittenValue, a_value, a_function}
use Rattle.program_names.specs.Loaded.{Program}
use Rattle.program_names.specs.Layers.{names, is_type}
use Rattle.program_tables.specs.declared.names.UnitNames.{UnitNames}
use Rattle.program_tables.specs.Stands.{Stands, is_there}
use Rattle.program_tables.proofs.TypeLemmas.{types_as_meant}
use Rattle.document_tables.specs.declared.program.DocumentTable.{DocumentTable}
use Rattle.unit_rows.specs.declared.names.HandlerRow.{HandlerRow}
use Rattle.unit_rows.specs.declared.names.NameFinds.{NameFinds}
use Rattle.unit_rows.specs.declared.names.NameFinds.TheVariants as finds
use Rattle.unit_rows.specs.declared.names.NameRow.{NameRow}
use Rattle.unit_rows.specs.declared.names.SignalRef.{SignalRef}
use Rattle.unit_rows.specs.declared.names.SignalRef.TheVariants as signal
use Rattle.unit_rows.specs.NamesOfObjects.{rows_of_type, handlers_of}
use Rattle.declared_signals.specs.declared.declaring.UnitSignals.{UnitSignals}
use Rattle.declared_signals.specs.Told.{Signal}
use Rattle.handled_signals.specs.Handled.{signal_with, signals_handled}
use Rattle.handled_signals.specs.Meant.{SignalsTold}
use Rattle.handled_signals.proofs.ProgramLemmas.{signals_as_meant}
use Rattle.given_handlers.specs.Given.{is_for_target, handler_row, row_of_signal, handlers_given, handlers_of_function}

-- ---- the signals that names find

abbrev signal_under : Units → NameRow → Option SignalRef
signal_under handler r = elim (r.finds) as (λ _. Option SignalRef) [
  | finds.Signal s parameters ↦ if bytes_eq (handler_of r.name) handler then Some s else None
  | _ ↦ None
]

one_signal : (body : ℕ) (b : Bool) (s : SignalRef) (parameters : List Units) (rest : List Signal) (later : List SignalRef) →
    map (row_of_signal body) rest ≡ map (handler_row body) later →
    map (row_of_signal body) ((if b then (s, parameters) ∷ [] else []) ++ rest) ≡ map (handler_row body) (cons_option (if b then Some s else None) later)
one_signal body true s parameters rest later e = ap (λ z. handler_row body s ∷ z) e
one_signal body false s parameters rest later e = e

rows_same : (body : ℕ) (h : Units) (rows : List NameRow) → map (row_of_signal body) (flat_map (signal_with h) rows) ≡ map (handler_row body) (filter_map (signal_under h) rows)
rows_same body h [] = refl
rows_same body h (r ∷ rows) = cases r.finds (rows_same body h rows)
  where
    cases : (f : NameFinds) → map (row_of_signal body) (flat_map (signal_with h) rows) ≡ map (handler_row body) (filter_map (signal_under h) rows) →
        map (row_of_signal body) (signal_with h (record { name = r.name; finds = f }) ++ flat_map (signal_with h) rows) ≡
        map (handler_row body) (cons_option (signal_under h (record { name = r.name; finds = f })) (filter_map (signal_under h) rows))
    cases (finds.Signal s parameters) e = one_signal body (bytes_eq (handler_of r.name) h) s parameters (flat_map (signal_with h) rows) (filter_map (signal_under h) rows) e
    cases (finds.Cell place a) e = e
    cases (finds.Function b) e = e
    cases finds.Method e = e
    cases (finds.Object w) e = e
    cases (finds.CellOf w place a) e = e

-- ---- the target of a Connections

pub target_meant : (p : Program) (us : List UnitNames) → Stands p us → (u o : ℕ) → is_there us u o ≡ true → (n : Units) →
    is_for_target us u o n ≡ (is_type p u o no.Connections && is_handler_name n)
target_meant p us s u o l n = ap (λ b. b && is_handler_name n) (types_as_meant p us s u o l (Builtin no.Connections))

-- ---- values

chosen : (body : ℕ) (n : Units) (b : Bool) (found : List HandlerRow) (signals : List SignalRef) → found ≡ map (handler_row body) signals →
    (if b then handler_row body (signal.OfTarget n) ∷ [] else found) ≡ map (handler_row body) (elim b as (λ _. List SignalRef) [ true ↦ signal.OfTarget n ∷ [] | false ↦ signals ])
chosen body n true found signals e = refl
chosen body n false found signals e = e

attached_meant : (body : ℕ) (a b c : Bool) →
    (if a then (if b then handler_row body signal.Completed ∷ [] else (if c then handler_row body signal.Destruction ∷ [] else [])) else []) ≡
    map (handler_row body) (if a then (if b then signal.Completed ∷ [] else (if c then signal.Destruction ∷ [] else [])) else [])
attached_meant body true true c = refl
attached_meant body true false true = refl
attached_meant body true false false = refl
attached_meant body false b c = refl

pub values_meant : (p : Program) (us : List UnitNames) (ds : List DocumentTable) (ss : List UnitSignals) → Stands p us → SignalsTold p us ds ss → (u o : ℕ) → is_there us u o ≡ true →
    (body : ℕ) (at : Place) (path : List Units) (v : WrittenValue) →
    handlers_given us ds ss u o body path ≡ handlers_of p u (record { object = o; member = a_value at path v; body = body })
values_meant p us ds ss s told u o l body at [] v = refl
values_meant p us ds ss s told u o l body at (n ∷ []) v =
    ap (λ b. if b then handler_row body (signal.OfTarget n) ∷ [] else map (row_of_signal body) (signals_handled us ds ss u o n)) (target_meant p us s u o l n)
    ∙ chosen body n (is_type p u o no.Connections && is_handler_name n) (map (row_of_signal body) (signals_handled us ds ss u o n)) (filter_map (signal_under n) (rows_of_type (names p u o)))
    (ap (map (row_of_signal body)) (signals_as_meant p us ds ss s told u o l n) ∙ rows_same body n (rows_of_type (names p u o)))
values_meant p us ds ss s told u o l body at (c ∷ n ∷ []) v = attached_meant body (bytes_eq c (codes "Component")) (bytes_eq n (codes "onCompleted")) (bytes_eq n (codes "onDestruction"))
values_meant p us ds ss s told u o l body at (c ∷ n ∷ m ∷ rest) v = refl

pub functions_meant : (p : Program) (us : List UnitNames) → Stands p us → (u o : ℕ) → is_there us u o ≡ true → (body : ℕ) (q : Place) (f : Function) (name : List ℕ) (at : Place) →
    handlers_of_function us u o body name ≡ handlers_of p u (record { object = o; member = a_function q f name at; body = body })
functions_meant p us s u o l body q f name at = ap (λ b. if b then handler_row body (signal.OfTarget name) ∷ [] else []) (target_meant p us s u o l name)
