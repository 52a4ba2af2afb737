-- The signals under a handler, layer by layer, are those among the names of the object.
use Rattle.std.proofs.Common.{◌≡◌, ◌∙◌, ap, sym, subst, refl, ℕ, zero, suc, ◌+◌, arith, add-one, true, List, [], ◌∷◌, ◌++◌, length, map, Some, None}
use Rattle.std.specs.Prelude.{slice_get}
use Rattle.std.specs.Option.{option_and_then}
use Rattle.std.specs.List.{flat_map}
use Rattle.std.proofs.lemmas.List.{append-nil, append_assoc}
use Rattle.qml_syntax.specs.Tree.{Units}
use Rattle.qml_types.specs.declared.kind.TypeNo.{TypeNo}
use Rattle.qml_types.specs.declared.kind.TypeNo.TheVariants as no
use Rattle.qml_types.specs.declared.kind.TypeRef.{TypeRef}
use Rattle.qml_types.specs.declared.kind.TypeRef.TheVariants.{Builtin, Document as OfDocument}
use Rattle.qml_types.specs.Table.{cells_of, own_cells, lineage}
use Rattle.program_names.specs.Written.{WrittenMember}
use Rattle.program_names.specs.Loaded.{Program, object_at, type_of_object}
use Rattle.program_names.specs.Layers.{Layer, of_type, of_object, Named, names_of_type, names_of_members, names_of_layer, cells_of_layer, names, handled}
use Rattle.program_tables.specs.declared.names.ObjectNames.{ObjectNames}
use Rattle.program_tables.specs.declared.names.UnitNames.{UnitNames}
use Rattle.program_tables.specs.Walk.{object_in}
use Rattle.program_tables.specs.Types.{base_by, base_in}
use Rattle.program_tables.specs.Stands.{is_there, Stands}
use Rattle.program_tables.proofs.MeaningLemmas.{below, layers_of_type, Rooted, rooted_type, there}
use Rattle.document_tables.specs.declared.program.DocumentTable.{DocumentTable}
use Rattle.unit_rows.specs.NamesOfObjects.{rows_of_type}
use Rattle.declared_signals.specs.declared.declaring.UnitSignals.{UnitSignals}
use Rattle.declared_signals.specs.Told.{written_under, signals_written, signal_at}
use Rattle.handled_signals.specs.Layers.{ObjectLayers, layers_below, layers_at}
use Rattle.handled_signals.specs.Handled.{signal_with, Found, found_in_type, rows_in, signals_in, under_by, count_by, cells_by, with_layer, with_layers, signals_handled}
use Rattle.handled_signals.specs.Meant.{IsKept, SignalsTold, joined}
use Rattle.handled_signals.proofs.HeardLemmas.{heard, heard_so, joined_heard, heard_members, heard_type}

-- ---- the definition of names layer by layer, by the words that it is made of

abbrev names_from : Program → ℕ → List Layer → List Named
names_from p place [] = []
names_from p place (layer ∷ rest) = names_of_layer p place layer ++ names_from p (place + cells_of_layer p layer) rest

abbrev cells_from : Program → List Layer → ℕ
cells_from p [] = 0
cells_from p (layer ∷ rest) = cells_of_layer p layer + cells_from p rest

names_so : (p : Program) (u o : ℕ) → names p u o ≡ names_from p 0 (below (suc (length p)) p u o)
names_so p u o = refl

sum_assoc : (a b c : ℕ) → (a + b) + c ≡ a + (b + c)
sum_assoc a b c = omega arith

from_none : (a : ℕ) → 0 + a ≡ a
from_none a = omega arith

and_none : (a : ℕ) → a + 0 ≡ a
and_none a = omega arith

names_of_two : (p : Program) (place : ℕ) (ls ms : List Layer) → names_from p place (ls ++ ms) ≡ names_from p place ls ++ names_from p (place + cells_from p ls) ms
names_of_two p place [] ms = ap (λ k. names_from p k ms) (sym (and_none place))
names_of_two p place (l ∷ ls) ms =
    ap (λ ns. names_of_layer p place l ++ ns)
    (names_of_two p (place + cells_of_layer p l) ls ms ∙ ap (λ k. names_from p (place + cells_of_layer p l) ls ++ names_from p k ms) (sum_assoc place (cells_of_layer p l) (cells_from p ls))) ∙
    sym (append_assoc (names_of_layer p place l) (names_from p (place + cells_of_layer p l) ls) (names_from p (place + (cells_of_layer p l + cells_from p ls)) ms))

cells_of_two : (p : Program) (ls ms : List Layer) → cells_from p (ls ++ ms) ≡ cells_from p ls + cells_from p ms
cells_of_two p [] ms = sym (from_none (cells_from p ms))
cells_of_two p (l ∷ ls) ms = ap (λ k. cells_of_layer p l + k) (cells_of_two p ls ms) ∙ sym (sum_assoc (cells_of_layer p l) (cells_from p ls) (cells_from p ms))

names_of_types : (p : Program) (place : ℕ) (ts : List TypeNo) → names_from p place (map of_type ts) ≡ flat_map names_of_type ts
names_of_types p place [] = refl
names_of_types p place (t ∷ ts) = ap (λ ns. names_of_type t ++ ns) (names_of_types p (place + length (own_cells t)) ts)

cells_of_types : (p : Program) (t : TypeNo) → cells_from p (map of_type (lineage t)) ≡ length (cells_of t)
cells_of_types p no.QtObject = refl
cells_of_types p no.Component = refl
cells_of_types p no.Item = refl
cells_of_types p no.Timer = refl
cells_of_types p no.Connections = refl
cells_of_types p no.Binding = refl
cells_of_types p no.State = refl
cells_of_types p no.PropertyChanges = refl
cells_of_types p no.ListModel = refl
cells_of_types p no.ListElement = refl
cells_of_types p no.Repeater = refl
cells_of_types p no.Loader = refl
cells_of_types p no.Host = refl

-- ---- the tables

abbrev found : List UnitNames → List DocumentTable → List UnitSignals → Units → ObjectLayers → Found
found us ds ss h ls = with_layers us ds ss h ls.objects (found_in_type ls.base h)

-- what was found is what is heard of the names of these layers
record AsMeant (p : Program) (h : Units) (ls : List Layer) (f : Found) : Type 0 where
  signals : (rest : List Named) → heard h 0 None (names_from p 0 ls ++ rest) ≡ f.list ++ heard h f.signals None rest
  cells : f.cells ≡ cells_from p ls

abbrev TypesAsMeant : Program → List UnitNames → List DocumentTable → List UnitSignals → Units → ℕ → Type 0
TypesAsMeant p us ds ss h f =
    (t : TypeRef) → Rooted us t → AsMeant p h (layers_of_type (λ e. below f p e 0) t) (found us ds ss h (layers_below (λ e. layers_at f us e 0) t))

base_is : (p : Program) (us : List UnitNames) → Stands p us → (u o : ℕ) (x : ObjectNames) → object_in us u o ≡ Some x → base_in us u o ≡ type_of_object p u o
base_is p us s u o x i = ap base_by i ∙ s.bases u o x i

signals_there : (ss : List UnitSignals) (u o : ℕ) (k : IsKept ss u o) → signals_in ss u o ≡ Some k.object
signals_there ss u o k = ap (option_and_then (λ (unit : UnitSignals). slice_get unit.objects.items o)) k.there ∙ k.own

regroup : (a b c : List Named) → ((a ++ (b ++ [])) ++ c) ≡ a ++ (b ++ c)
regroup a b c = append_assoc a (b ++ []) c ∙ ap (λ z. a ++ (z ++ c)) (append-nil b)

with_object : (p : Program) (us : List UnitNames) (ds : List DocumentTable) (ss : List UnitSignals) (h : Units) → Stands p us → SignalsTold p us ds ss → (u o : ℕ) → is_there us u o ≡ true →
    (ls : List Layer) (f : Found) → AsMeant p h ls f → AsMeant p h (ls ++ of_object u o ∷ []) (with_layer us ds ss h (u, o) f)
with_object p us ds ss h s told u o l ls f a =
    let k : IsKept ss u o = told.kept u o l in
    let ms : List WrittenMember = (object_at p u o).members in
    let x = there us u o l in
    let place : 0 + cells_from p ls ≡ f.cells = from_none (cells_from p ls) ∙ sym a.cells in
    let seen : signals_in ss u o ≡ Some k.object = signals_there ss u o k in
    let list : map (signal_at (rows_in ds u) f.cells f.signals) (under_by (signals_in ss u o) h) ≡ written_under h f.cells f.signals ms =
    ap (λ z. map (signal_at (rows_in ds u) f.cells f.signals) (under_by z h)) seen
    ∙ (told.tells u k.unit k.there).signals o k.object k.own h f.cells f.signals in
    let count : count_by (signals_in ss u o) ≡ signals_written ms = ap count_by seen ∙ (told.tells u k.unit k.there).count o k.object k.own in
    record {
      signals = λ rest.
          ap (λ z. heard h 0 None (z ++ rest)) (names_of_two p 0 ls (of_object u o ∷ []))
          ∙ ap (heard h 0 None) (regroup (names_from p 0 ls) (names_of_members p u o (0 + cells_from p ls) ms) rest)
          ∙ ap (λ z. heard h 0 None (names_from p 0 ls ++ (names_of_members p u o z ms ++ rest))) place
          ∙ a.signals (names_of_members p u o f.cells ms ++ rest)
          ∙ ap (λ z. f.list ++ z) (heard_members p u o h f.signals f.cells ms rest)
          ∙ sym (append_assoc f.list (written_under h f.cells f.signals ms) (heard h (f.signals + signals_written ms) None rest))
          ∙ ap (λ z. (f.list ++ z) ++ heard h (f.signals + signals_written ms) None rest) (sym list)
          ∙ ap (λ z. (f.list ++ map (signal_at (rows_in ds u) f.cells f.signals) (under_by (signals_in ss u o) h)) ++ heard h (f.signals + z) None rest) (sym count);
      cells =
          ap (λ z. f.cells + cells_by z) x.1 ∙ ap (λ z. f.cells + z) (s.cells u o x.0 x.1)
          ∙ ap (λ z. z + cells_of_layer p (of_object u o)) a.cells
          ∙ ap (λ z. cells_from p ls + z) (sym (and_none (cells_of_layer p (of_object u o))))
          ∙ sym (cells_of_two p ls (of_object u o ∷ []));
    }

object_as_meant : (p : Program) (us : List UnitNames) (ds : List DocumentTable) (ss : List UnitSignals) (h : Units) → Stands p us → SignalsTold p us ds ss → (f : ℕ) → TypesAsMeant p us ds ss h f →
    (u o : ℕ) → is_there us u o ≡ true → AsMeant p h (below (suc f) p u o) (found us ds ss h (layers_at (suc f) us u o))
object_as_meant p us ds ss h s told f deeper u o l =
    let x = there us u o l in
    let t : TypeRef = type_of_object p u o in
    subst (λ z. AsMeant p h (below (suc f) p u o) (with_layer us ds ss h (u, o) (found us ds ss h (layers_below (λ e. layers_at f us e 0) z)))) (sym (base_is p us s u o x.0 x.1))
    (with_object p us ds ss h s told u o l (layers_of_type (λ e. below f p e 0) t) (found us ds ss h (layers_below (λ e. layers_at f us e 0) t))
    (deeper t (rooted_type p us s u o x.0 x.1)))

nothing_as_meant : (p : Program) (h : Units) → AsMeant p h [] (record { cells = 0; signals = 0; list = [] })
nothing_as_meant p h = record { signals = λ rest. refl; cells = refl }

types_as_meant : (p : Program) (us : List UnitNames) (ds : List DocumentTable) (ss : List UnitSignals) (h : Units) → Stands p us → SignalsTold p us ds ss → (f : ℕ) → TypesAsMeant p us ds ss h f
types_as_meant p us ds ss h s told f (Builtin t) r = record {
  signals = λ rest. ap (λ z. heard h 0 None (z ++ rest)) (names_of_types p 0 (lineage t)) ∙ heard_type h t rest;
  cells = sym (cells_of_types p t);
}
types_as_meant p us ds ss h s told zero (OfDocument e) r = nothing_as_meant p h
types_as_meant p us ds ss h s told (suc f) (OfDocument e) r = object_as_meant p us ds ss h s told f (types_as_meant p us ds ss h s told f) e.0 0 (r e refl)

pub heard_as_meant : (p : Program) (us : List UnitNames) (ds : List DocumentTable) (ss : List UnitSignals) → Stands p us → SignalsTold p us ds ss → (u o : ℕ) → is_there us u o ≡ true → (h : Units) →
    signals_handled us ds ss u o h ≡ heard h 0 None (names p u o)
heard_as_meant p us ds ss s told u o l h =
    let a : AsMeant p h (below (suc (length us)) p u o) (found us ds ss h (layers_at (suc (length us)) us u o)) =
    object_as_meant p us ds ss h s told (length us) (types_as_meant p us ds ss h s told (length us)) u o l in
    ap (λ f. (found us ds ss h (layers_at f us u o)).list) (add-one (length us))
    ∙ sym (append-nil (found us ds ss h (layers_at (suc (length us)) us u o)).list)
    ∙ sym (a.signals [])
    ∙ ap (heard h 0 None) (append-nil (names_from p 0 (below (suc (length us)) p u o)))
    ∙ ap (λ f. heard h 0 None (names_from p 0 (below (suc f) p u o))) s.long

pub signals_as_meant : (p : Program) (us : List UnitNames) (ds : List DocumentTable) (ss : List UnitSignals) → Stands p us → SignalsTold p us ds ss → (u o : ℕ) → is_there us u o ≡ true → (h : Units) →
    signals_handled us ds ss u o h ≡ flat_map (signal_with h) (rows_of_type (names p u o))
signals_as_meant p us ds ss s told u o l h = heard_as_meant p us ds ss s told u o l h ∙ sym (heard_so h (names p u o))

pub parameters_as_meant : (p : Program) (us : List UnitNames) (ds : List DocumentTable) (ss : List UnitSignals) → Stands p us → SignalsTold p us ds ss → (u o : ℕ) → is_there us u o ≡ true → (h : Units) →
    joined (signals_handled us ds ss u o h) ≡ handled p u o h
parameters_as_meant p us ds ss s told u o l h = ap joined (heard_as_meant p us ds ss s told u o l h) ∙ joined_heard h 0 None (names p u o)
