-- The signals under a handler among names, without the rows.
use Rattle.std.proofs.Common.{◌≡◌, ◌∙◌, ap, sym, refl, ℕ, suc, ◌+◌, arith, Bool, true, false, List, [], ◌∷◌, ◌++◌, length, map, Option, Some, None}
use Rattle.std.specs.Prelude.{if◌then◌else◌}
use Rattle.std.specs.List.{flat_map}
use Rattle.std.specs.Str.{bytes_eq}
use Rattle.std.proofs.lemmas.List.{append_assoc}
use Rattle.qml_base.specs.declared.numbers.Place.{Place}
use Rattle.qml_syntax.specs.Tree.{Units}
use Rattle.qml_types.specs.declared.kind.TypeNo.{TypeNo}
use Rattle.qml_types.specs.declared.kind.TypeNo.TheVariants as no
use Rattle.qml_types.specs.Table.{lineage}
use Rattle.qml_types.specs.Members.{signals_of}
use Rattle.program_names.specs.Names.{changed, handler_of}
use Rattle.program_names.specs.Written.{WrittenMember, an_id, a_property, an_alias, a_signal, a_function, a_value, a_group, a_child, a_stray}
use Rattle.program_names.specs.Loaded.{Program}
use Rattle.program_names.specs.Layers.{Named, NameMeaning, a_cell, a_signal_of, a_function_of, a_method, an_alias_of, the_children, names_of_type, names_of_members, handled_by, handled_in, joined_names}
use Rattle.program_names.specs.PathMeanings.{way_to, PathEnd, at_cell, at_object, at_nothing, in_circle}
use Rattle.unit_rows.specs.declared.names.SignalRef.{SignalRef}
use Rattle.unit_rows.specs.declared.names.SignalRef.TheVariants.{Change as change_of, Own as own_signal}
use Rattle.unit_rows.specs.declared.names.NameFinds.{NameFinds}
use Rattle.unit_rows.specs.declared.names.NameFinds.TheVariants.{Cell as finds_cell, Signal as finds_signal, Function as finds_function, Method as finds_method, Object as finds_object, CellOf as finds_cell_of}
use Rattle.unit_rows.specs.declared.names.NameRow.{NameRow}
use Rattle.unit_rows.specs.NamesOfObjects.{rows_of_type}
use Rattle.type_rows.specs.Rows.{type_rows}
use Rattle.declared_signals.specs.Told.{Signal, if_handled, written_under, signals_written}
use Rattle.handled_signals.specs.Handled.{signal_with}
use Rattle.handled_signals.specs.Meant.{joined}
use Rattle.handled_signals.proofs.FoundLemmas.{flat_append}

-- ---- the rows of names, by the words that they are made of

abbrev name_row : Units → NameFinds → NameRow
name_row name finds = record { name = name; finds = finds }

abbrev finds_by_end : PathEnd → List NameFinds
finds_by_end (at_cell w place k a) = finds_cell_of w place a ∷ []
finds_by_end (at_object s) = finds_object (way_to s) ∷ []
finds_by_end at_nothing = []
finds_by_end in_circle = []

abbrev Ends : Type 0
Ends = ℕ → ℕ → List Units → PathEnd

abbrev signal_row : Units → ℕ → List Units → Option ℕ → NameRow
signal_row name n parameters (Some place) = name_row name (finds_signal (change_of place) parameters)
signal_row name n parameters None = name_row name (finds_signal (own_signal n) parameters)

abbrev next_signal : ℕ → Option ℕ → ℕ
next_signal n (Some place) = n
next_signal n None = suc n

abbrev rows_of_names : (Place → ℕ) → Ends → ℕ → Option ℕ → List Named → List NameRow
rows_of_names body ends n cell [] = []
rows_of_names body ends n cell (x ∷ rest) = elim (x.what) as (λ _. List NameRow) [
  | a_cell place k a ↦ name_row x.name (finds_cell place a) ∷ rows_of_names body ends n (Some place) rest
  | a_signal_of parameters ↦ signal_row x.name n parameters cell ∷ rows_of_names body ends (next_signal n cell) None rest
  | a_function_of d o f ↦ name_row x.name (finds_function (body x.at)) ∷ rows_of_names body ends n None rest
  | a_method ↦ name_row x.name finds_method ∷ rows_of_names body ends n None rest
  | an_alias_of d o target ↦ map (name_row x.name) (finds_by_end (ends d o target)) ++ rows_of_names body ends n None rest
  | the_children ↦ rows_of_names body ends n None rest
]

abbrev no_body : Place → ℕ
no_body at = 0

abbrev no_end : Ends
no_end d o target = at_nothing

rows_so : (ns : List Named) → rows_of_type ns ≡ rows_of_names no_body no_end 0 None ns
rows_so ns = refl

-- ---- the signals among them

abbrev number_of : ℕ → Option ℕ → SignalRef
number_of n (Some place) = change_of place
number_of n None = own_signal n

abbrev pub heard : Units → ℕ → Option ℕ → List Named → List Signal
heard h n cell [] = []
heard h n cell (x ∷ rest) = elim (x.what) as (λ _. List Signal) [
  | a_cell place k a ↦ heard h n (Some place) rest
  | a_signal_of parameters ↦ if_handled x.name h (number_of n cell, parameters) ++ heard h (next_signal n cell) None rest
  | a_function_of d o f ↦ heard h n None rest
  | a_method ↦ heard h n None rest
  | an_alias_of d o target ↦ heard h n None rest
  | the_children ↦ heard h n None rest
]

one_signal : (h name : Units) (n : ℕ) (parameters : List Units) (cell : Option ℕ) → signal_with h (signal_row name n parameters cell) ≡ if_handled name h (number_of n cell, parameters)
one_signal h name n parameters (Some place) = refl
one_signal h name n parameters None = refl

heard_rows : (h : Units) (n : ℕ) (cell : Option ℕ) (ns : List Named) → flat_map (signal_with h) (rows_of_names no_body no_end n cell ns) ≡ heard h n cell ns
heard_rows h n cell [] = refl
heard_rows h n cell (x ∷ rest) = cases (λ m c. heard_rows h m c rest) x.what
  where
    cases : ((m : ℕ) (c : Option ℕ) → flat_map (signal_with h) (rows_of_names no_body no_end m c rest) ≡ heard h m c rest) → (what : NameMeaning) →
        flat_map (signal_with h) (elim what as (λ _. List NameRow) [
          | a_cell place k a ↦ name_row x.name (finds_cell place a) ∷ rows_of_names no_body no_end n (Some place) rest
          | a_signal_of parameters ↦ signal_row x.name n parameters cell ∷ rows_of_names no_body no_end (next_signal n cell) None rest
          | a_function_of d o f ↦ name_row x.name (finds_function (no_body x.at)) ∷ rows_of_names no_body no_end n None rest
          | a_method ↦ name_row x.name finds_method ∷ rows_of_names no_body no_end n None rest
          | an_alias_of d o target ↦ map (name_row x.name) (finds_by_end (no_end d o target)) ++ rows_of_names no_body no_end n None rest
          | the_children ↦ rows_of_names no_body no_end n None rest
        ]) ≡
        elim what as (λ _. List Signal) [
          | a_cell place k a ↦ heard h n (Some place) rest
          | a_signal_of parameters ↦ if_handled x.name h (number_of n cell, parameters) ++ heard h (next_signal n cell) None rest
          | a_function_of d o f ↦ heard h n None rest
          | a_method ↦ heard h n None rest
          | an_alias_of d o target ↦ heard h n None rest
          | the_children ↦ heard h n None rest
        ]
    cases later (a_cell place k a) = later n (Some place)
    cases later (a_signal_of parameters) =
        ap (λ z. z ++ flat_map (signal_with h) (rows_of_names no_body no_end (next_signal n cell) None rest)) (one_signal h x.name n parameters cell)
        ∙ ap (λ z. if_handled x.name h (number_of n cell, parameters) ++ z) (later (next_signal n cell) None)
    cases later (a_function_of d o f) = later n None
    cases later a_method = later n None
    cases later (an_alias_of d o target) = later n None
    cases later the_children = later n None

pub heard_so : (h : Units) (ns : List Named) → flat_map (signal_with h) (rows_of_type ns) ≡ heard h 0 None ns
heard_so h ns = heard_rows h 0 None ns

-- ---- their parameters

handled_if : (b : Bool) (s : SignalRef) (parameters : List Units) (rest : List Signal) →
    joined ((if b then (s, parameters) ∷ [] else []) ++ rest) ≡ joined_names (if b then Some parameters else None) (joined rest)
handled_if true s parameters rest = refl
handled_if false s parameters rest = refl

not_handled : (b : Bool) (rest : Option (List Units)) → rest ≡ joined_names (if b then None else None) rest
not_handled true rest = refl
not_handled false rest = refl

pub joined_heard : (h : Units) (n : ℕ) (cell : Option ℕ) (ns : List Named) → joined (heard h n cell ns) ≡ handled_in h ns
joined_heard h n cell [] = refl
joined_heard h n cell (x ∷ rest) = cases (λ m c. joined_heard h m c rest) x.what
  where
    cases : ((m : ℕ) (c : Option ℕ) → joined (heard h m c rest) ≡ handled_in h rest) → (what : NameMeaning) →
        joined (elim what as (λ _. List Signal) [
          | a_cell place k a ↦ heard h n (Some place) rest
          | a_signal_of parameters ↦ if_handled x.name h (number_of n cell, parameters) ++ heard h (next_signal n cell) None rest
          | a_function_of d o f ↦ heard h n None rest
          | a_method ↦ heard h n None rest
          | an_alias_of d o target ↦ heard h n None rest
          | the_children ↦ heard h n None rest
        ]) ≡
        joined_names (handled_by h (record { name = x.name; at = x.at; what = what })) (handled_in h rest)
    cases later (a_cell place k a) = later n (Some place) ∙ not_handled (bytes_eq (handler_of x.name) h) (handled_in h rest)
    cases later (a_signal_of parameters) =
        handled_if (bytes_eq (handler_of x.name) h) (number_of n cell) parameters (heard h (next_signal n cell) None rest)
        ∙ ap (joined_names (if bytes_eq (handler_of x.name) h then Some parameters else None)) (later (next_signal n cell) None)
    cases later (a_function_of d o f) = later n None ∙ not_handled (bytes_eq (handler_of x.name) h) (handled_in h rest)
    cases later a_method = later n None ∙ not_handled (bytes_eq (handler_of x.name) h) (handled_in h rest)
    cases later (an_alias_of d o target) = later n None ∙ not_handled (bytes_eq (handler_of x.name) h) (handled_in h rest)
    cases later the_children = later n None ∙ not_handled (bytes_eq (handler_of x.name) h) (handled_in h rest)

-- ---- a layer of a document

no_more : (a : ℕ) → a + 0 ≡ a
no_more a = omega arith

one_more : (a : ℕ) → a + 1 ≡ suc a
one_more a = omega arith

suc_more : (a b : ℕ) → suc a + b ≡ a + suc b
suc_more a b = omega arith

pub heard_members : (p : Program) (u o : ℕ) (h : Units) (n place : ℕ) (ms : List WrittenMember) (rest : List Named) →
    heard h n None (names_of_members p u o place ms ++ rest) ≡ written_under h place n ms ++ heard h (n + signals_written ms) None rest
heard_members p u o h n place [] rest = ap (λ k. heard h k None rest) (sym (no_more n))
heard_members p u o h n place (a_property q a k nm at v ∷ ms) rest =
    ap (λ z. if_handled (changed nm) h (change_of place, []) ++ heard h n None (names_of_members p u o z ms ++ rest)) (one_more place)
    ∙ ap (λ z. if_handled (changed nm) h (change_of place, []) ++ z) (heard_members p u o h n (suc place) ms rest)
    ∙ sym (append_assoc (if_handled (changed nm) h (change_of place, [])) (written_under h (suc place) n ms) (heard h (n + signals_written ms) None rest))
heard_members p u o h n place (a_signal q nm at names ∷ ms) rest =
    ap (λ z. if_handled nm h (own_signal n, names) ++ heard h (suc n) None (names_of_members p u o z ms ++ rest)) (no_more place)
    ∙ ap (λ z. if_handled nm h (own_signal n, names) ++ z) (heard_members p u o h (suc n) place ms rest)
    ∙ ap (λ z. if_handled nm h (own_signal n, names) ++ (written_under h place (suc n) ms ++ heard h z None rest)) (suc_more n (signals_written ms))
    ∙ sym (append_assoc (if_handled nm h (own_signal n, names)) (written_under h place (suc n) ms) (heard h (n + suc (signals_written ms)) None rest))
heard_members p u o h n place (an_alias q def nm at target t ∷ ms) rest = ap (λ z. heard h n None (names_of_members p u o z ms ++ rest)) (no_more place) ∙ heard_members p u o h n place ms rest
heard_members p u o h n place (a_function q f nm at ∷ ms) rest = ap (λ z. heard h n None (names_of_members p u o z ms ++ rest)) (no_more place) ∙ heard_members p u o h n place ms rest
heard_members p u o h n place (an_id q nm at ∷ ms) rest = ap (λ z. heard h n None (names_of_members p u o z ms ++ rest)) (no_more place) ∙ heard_members p u o h n place ms rest
heard_members p u o h n place (a_value at path v ∷ ms) rest = ap (λ z. heard h n None (names_of_members p u o z ms ++ rest)) (no_more place) ∙ heard_members p u o h n place ms rest
heard_members p u o h n place (a_group at path ∷ ms) rest = ap (λ z. heard h n None (names_of_members p u o z ms ++ rest)) (no_more place) ∙ heard_members p u o h n place ms rest
heard_members p u o h n place (a_child at c ∷ ms) rest = ap (λ z. heard h n None (names_of_members p u o z ms ++ rest)) (no_more place) ∙ heard_members p u o h n place ms rest
heard_members p u o h n place (a_stray at ∷ ms) rest = ap (λ z. heard h n None (names_of_members p u o z ms ++ rest)) (no_more place) ∙ heard_members p u o h n place ms rest

-- ---- built-in layers

type_first : (t : TypeNo) (rest : List Named) →
    rows_of_names no_body no_end 0 None (flat_map names_of_type (lineage t) ++ rest) ≡ type_rows t ++ rows_of_names no_body no_end (length (signals_of t)) None rest
type_first no.QtObject rest = refl
type_first no.Component rest = refl
type_first no.Item rest = refl
type_first no.Timer rest = refl
type_first no.Connections rest = refl
type_first no.Binding rest = refl
type_first no.State rest = refl
type_first no.PropertyChanges rest = refl
type_first no.ListModel rest = refl
type_first no.ListElement rest = refl
type_first no.Repeater rest = refl
type_first no.Loader rest = refl
type_first no.Host rest = refl

pub heard_type : (h : Units) (t : TypeNo) (rest : List Named) →
    heard h 0 None (flat_map names_of_type (lineage t) ++ rest) ≡ flat_map (signal_with h) (type_rows t) ++ heard h (length (signals_of t)) None rest
heard_type h t rest =
    sym (heard_rows h 0 None (flat_map names_of_type (lineage t) ++ rest)) ∙ ap (flat_map (signal_with h)) (type_first t rest)
    ∙ flat_append (signal_with h) (type_rows t) (rows_of_names no_body no_end (length (signals_of t)) None rest)
    ∙ ap (λ z. flat_map (signal_with h) (type_rows t) ++ z) (heard_rows h (length (signals_of t)) None rest)
