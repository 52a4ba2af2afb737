-- A name is found as a handler's exactly where the object has a signal that it handles.
use Rattle.std.proofs.Common.{◌≡◌, ◌∙◌, ap, sym, refl, subst, ℕ, zero, suc, ◌+◌, ◌-◌, ◌<◌, arith, add-one, Bool, true, false, List, [], ◌∷◌, ◌++◌, length, map, Option, Some, None, is_some}
use Rattle.std.specs.Prelude.{◌||◌, ◌&&◌, not, nat_eq, if◌then◌else◌, slice_get}
use Rattle.std.specs.Option.{option_map, option_and_then}
use Rattle.std.specs.List.{flat_map, list_any}
use Rattle.std.specs.Str.{bytes_eq}
use Rattle.std.proofs.lemmas.Bool.{false≢true}
use Rattle.std.proofs.lemmas.Bool.Decides.{nat_tests}
use Rattle.std.proofs.lemmas.Slice.Eq.{bytes_eq-Decides}
use Rattle.std.proofs.lemmas.List.Folds.{list_any-append}
use Rattle.name_table.specs.Named.{under}
use Rattle.qml_base.specs.declared.numbers.UnitNo.{UnitNo}
use Rattle.qml_syntax.specs.Tree.{Units}
use Rattle.qml_types.specs.declared.kind.TypeNo.{TypeNo}
use Rattle.qml_types.specs.declared.kind.TypeNo.TheVariants as no
use Rattle.qml_types.specs.declared.kind.TypeRef.{TypeRef}
use Rattle.qml_types.specs.declared.kind.TypeRef.TheVariants.{Builtin, Document as OfDocument}
use Rattle.qml_types.specs.Table.{lineage}
use Rattle.program_names.specs.Names.{is_small_letter, raised, handler_of}
use Rattle.program_names.specs.Loaded.{Program, unit_at, object_at, type_of_object}
use Rattle.program_names.specs.Layers.{Layer, of_type, of_object, Named, NameMeaning, a_cell, a_signal_of, names_of_type, names_of_members, names_of_layer, cells_of_layer, own_names, meaning_in, parameters_of, handled_by, handled_in, joined_names, handled}
use Rattle.document_rows.specs.WrittenObjects.{members_of_object}
use Rattle.program_tables.specs.declared.built_in.BuiltInName.{BuiltInName}
use Rattle.program_tables.specs.declared.built_in.BuiltInName.TheVariants as b
use Rattle.program_tables.specs.declared.names.ObjectNames.{ObjectNames}
use Rattle.program_tables.specs.declared.names.UnitNames.{UnitNames}
use Rattle.program_tables.specs.BuiltIn.{built_in, built_in_meaning}
use Rattle.program_tables.specs.Walk.{object_in}
use Rattle.program_tables.specs.Stands.{is_there, Stands}
use Rattle.program_tables.specs.Types.{base_by, base_in}
use Rattle.program_tables.proofs.NameLemmas.{eq_either_way, built_in_means}
use Rattle.program_tables.proofs.MeaningLemmas.{below, layers_of_type, Rooted, rooted_type, there}
use Rattle.handler_names.specs.declared.declared.UnitHandlers.{UnitHandlers}
use Rattle.handler_names.specs.Handlers.{Handlers, no_handlers, handlers_added, behind_on, is_raised, is_large_letter, lowered_letter, raised_letter, lowered, is_signal, has_signal, handles_raised, handles_behind, type_handles, has_handler, declares, handled_below, handled_at}
use Rattle.handler_names.specs.Told.{HandlersTold, SaysHandlers}
use Rattle.handler_names.proofs.RowLemmas.{handles, some_joined, handles_both, or_none, anywhere, rows_as_meant}

-- ---- names raised

-- a letter is another one raised exactly where it isn't small, and that is it or it lowered
letters : (c e : ℕ) → nat_eq (raised_letter c) e ≡ (not (is_small_letter e) && (nat_eq c e || nat_eq c (lowered_letter e)))
letters c e = grind (arith, nat_tests)

and_assoc : (a b c : Bool) → ((a && b) && c) ≡ (a && (b && c))
and_assoc true b c = refl
and_assoc false b c = refl

spread : (a b c : Bool) → ((a || b) && c) ≡ ((a && c) || (b && c))
spread true true true = refl
spread true true false = refl
spread true false true = refl
spread true false false = refl
spread false b c = refl

raised_is : (n rest : Units) → bytes_eq (raised n) rest ≡ (is_raised rest && (bytes_eq n rest || bytes_eq n (lowered rest)))
raised_is [] [] = refl
raised_is [] (e ∷ es) = none (not (is_small_letter e))
  where
    none : (b : Bool) → false ≡ (b && false)
    none true = refl
    none false = refl
raised_is (c ∷ cs) [] = refl
raised_is (c ∷ cs) (e ∷ es) =
    ap (λ b. b && bytes_eq cs es) (letters c e) ∙ and_assoc (not (is_small_letter e)) (nat_eq c e || nat_eq c (lowered_letter e)) (bytes_eq cs es) ∙
    ap (λ b. not (is_small_letter e) && b) (spread (nat_eq c e) (nat_eq c (lowered_letter e)) (bytes_eq cs es))

-- ---- built-in types

abbrev sig : NameMeaning → Bool
sig (a_signal_of names) = true
sig _ = false

by_parameters : (b : Bool) (what : NameMeaning) → is_some (if b then parameters_of what else None) ≡ (b && sig what)
by_parameters true (a_signal_of names) = refl
by_parameters true _ = refl
by_parameters false what = refl

and_none : (b : Bool) → false ≡ (b && false)
and_none true = refl
and_none false = refl

abbrev raised_any : Units → List Named → Bool
raised_any rest ns = list_any (λ (n : Named). bytes_eq (raised n.name) rest && sig n.what) ns

abbrev named_any : Units → List Named → Bool
named_any name ns = list_any (λ (n : Named). bytes_eq n.name name && sig n.what) ns

either_way : (a c : ℕ) → nat_eq a c ≡ nat_eq c a
either_way a c = grind (arith, nat_tests)

regroup : (p q r s x : Bool) → (((p && (q && r)) && s) || ((p && q) && x)) ≡ ((p && q) && ((r && s) || x))
regroup true true r s x = refl
regroup true false r s x = refl
regroup false q r s x = refl

on_handles : (o n : ℕ) (rest : Units) (ns : List Named) → handles (o ∷ n ∷ rest) ns ≡ ((nat_eq o 111 && nat_eq n 110) && raised_any rest ns)
on_handles o n rest [] = and_none (nat_eq o 111 && nat_eq n 110)
on_handles o n rest (x ∷ ns) =
    let h : Units = o ∷ n ∷ rest in
    let r = bytes_eq (raised x.name) rest in
    some_joined (handled_by h x) (handled_in h ns) ∙
    ap (λ b. b || handles h ns) (by_parameters (bytes_eq (handler_of x.name) h) x.what) ∙
    ap (λ b. ((nat_eq 111 o && (nat_eq 110 n && r)) && sig x.what) || b) (on_handles o n rest ns) ∙
    ap (λ b. ((b && (nat_eq 110 n && r)) && sig x.what) || ((nat_eq o 111 && nat_eq n 110) && raised_any rest ns)) (either_way 111 o) ∙
    ap (λ b. ((nat_eq o 111 && (b && r)) && sig x.what) || ((nat_eq o 111 && nat_eq n 110) && raised_any rest ns)) (either_way 110 n) ∙
    regroup (nat_eq o 111) (nat_eq n 110) r (sig x.what) (raised_any rest ns)

none_handled : (h : Units) → ((name : Units) → bytes_eq (handler_of name) h ≡ false) → (ns : List Named) → handles h ns ≡ false
none_handled h e [] = refl
none_handled h e (x ∷ ns) =
    some_joined (handled_by h x) (handled_in h ns) ∙ ap (λ b. is_some (if b then parameters_of x.what else None) || handles h ns) (e x.name) ∙ none_handled h e ns

mixed : (r a b s x y : Bool) → (((r && (a || b)) && s) || (r && (x || y))) ≡ (r && (((a && s) || x) || ((b && s) || y)))
mixed false a b s x y = refl
mixed true true b true x y = refl
mixed true true true false x y = refl
mixed true true false false x y = refl
mixed true false true true true y = refl
mixed true false true true false y = refl
mixed true false true false x y = refl
mixed true false false s x y = refl

raised_two : (rest : Units) (ns : List Named) → raised_any rest ns ≡ (is_raised rest && (named_any rest ns || named_any (lowered rest) ns))
raised_two rest [] = and_none (is_raised rest)
raised_two rest (x ∷ ns) =
    ap (λ b. (b && sig x.what) || raised_any rest ns) (raised_is x.name rest) ∙
    ap (λ b. ((is_raised rest && (bytes_eq x.name rest || bytes_eq x.name (lowered rest))) && sig x.what) || b) (raised_two rest ns) ∙
    mixed (is_raised rest) (bytes_eq x.name rest) (bytes_eq x.name (lowered rest)) (sig x.what) (named_any rest ns) (named_any (lowered rest) ns)

-- names of which no two are the same

abbrev differs : Units → List Named → Bool
differs name [] = true
differs name (x ∷ ns) = not (bytes_eq x.name name) && differs name ns

abbrev all_differ : List Named → Bool
all_differ [] = true
all_differ (x ∷ ns) = differs x.name ns && all_differ ns

first_and : (a c : Bool) → (a && c) ≡ true → a ≡ true
first_and true c h = refl
first_and false c h = h

second_and : (a c : Bool) → (a && c) ≡ true → c ≡ true
second_and true c h = h
second_and false c h = absurd (false≢true h)

not_true : (a : Bool) → not a ≡ true → a ≡ false
not_true true h = absurd (false≢true h)
not_true false h = refl

none_named : (name : Units) (ns : List Named) → differs name ns ≡ true → named_any name ns ≡ false
none_named name [] h = refl
none_named name (x ∷ ns) h =
    ap (λ b. (b && sig x.what) || named_any name ns) (not_true (bytes_eq x.name name) (first_and (not (bytes_eq x.name name)) (differs name ns) h)) ∙
    none_named name ns (second_and (not (bytes_eq x.name name)) (differs name ns) h)

abbrev means_signal : Option NameMeaning → Bool
means_signal None = false
means_signal (Some what) = sig what

first_only : (name : Units) (ns : List Named) → all_differ ns ≡ true → named_any name ns ≡ means_signal (meaning_in ns name)
first_only name [] h = refl
first_only name (x ∷ ns) h = cases (first_only name ns (second_and (differs x.name ns) (all_differ ns) h)) (bytes_eq x.name name) refl
  where
    cases : named_any name ns ≡ means_signal (meaning_in ns name) → (c : Bool) → bytes_eq x.name name ≡ c
        → ((c && sig x.what) || named_any name ns) ≡ means_signal (if c then Some x.what else meaning_in ns name)
    cases later true e =
        ap (λ b. sig x.what || b)
        (none_named name ns (subst (λ n. differs n ns ≡ true) ((bytes_eq-Decides x.name name).0 e) (first_and (differs x.name ns) (all_differ ns) h))) ∙
        or_none (sig x.what)
    cases later false e = later

names_differ : (t : TypeNo) → all_differ (flat_map names_of_type (lineage t)) ≡ true
names_differ no.QtObject = refl
names_differ no.Component = refl
names_differ no.Item = refl
names_differ no.Timer = refl
names_differ no.Connections = refl
names_differ no.Binding = refl
names_differ no.State = refl
names_differ no.PropertyChanges = refl
names_differ no.ListModel = refl
names_differ no.ListElement = refl
names_differ no.Repeater = refl
names_differ no.Loader = refl
names_differ no.Host = refl

same_signal : (x : Option BuiltInName) → is_signal x ≡ means_signal (option_map built_in_meaning x)
same_signal None = refl
same_signal (Some (b.Cell place k a)) = refl
same_signal (Some b.Changed) = refl
same_signal (Some (b.Signal t i)) = refl
same_signal (Some b.Method) = refl
same_signal (Some b.Children) = refl

signal_named : (t : TypeNo) (name : Units) → has_signal t name ≡ named_any name (flat_map names_of_type (lineage t))
signal_named t name =
    same_signal (built_in t name) ∙ ap means_signal (built_in_means t name) ∙ sym (first_only name (flat_map names_of_type (lineage t)) (names_differ t))

behind_two : (t : TypeNo) (a c : Bool) (rest : Units) → handles_behind t (if a then if c then Some rest else None else None) ≡ ((a && c) && handles_raised t rest)
behind_two t true true rest = refl
behind_two t true false rest = refl
behind_two t false c rest = refl

no_bytes : (name : Units) → bytes_eq (handler_of name) [] ≡ false
no_bytes name = refl

one_byte : (o : ℕ) (name : Units) → bytes_eq (handler_of name) (o ∷ []) ≡ false
one_byte o name = sym (and_none (nat_eq 111 o))

type_means : (t : TypeNo) (h : Units) → type_handles t h ≡ handles h (flat_map names_of_type (lineage t))
type_means t [] = sym (none_handled [] no_bytes (flat_map names_of_type (lineage t)))
type_means t (o ∷ []) = sym (none_handled (o ∷ []) (one_byte o) (flat_map names_of_type (lineage t)))
type_means t (o ∷ n ∷ rest) =
    let ns : List Named = flat_map names_of_type (lineage t) in
    behind_two t (nat_eq o 111) (nat_eq n 110) rest ∙
    ap (λ c. (nat_eq o 111 && nat_eq n 110) && (is_raised rest && (c || has_signal t (lowered rest)))) (signal_named t rest) ∙
    ap (λ c. (nat_eq o 111 && nat_eq n 110) && (is_raised rest && (named_any rest ns || c))) (signal_named t (lowered rest)) ∙
    ap (λ c. (nat_eq o 111 && nat_eq n 110) && c) (sym (raised_two rest ns)) ∙ sym (on_handles o n rest ns)

-- ---- the definition layer by layer, by the words that it is made of

abbrev names_from : Program → ℕ → List Layer → List Named
names_from p place [] = []
names_from p place (layer ∷ rest) = names_of_layer p place layer ++ names_from p (place + cells_of_layer p layer) rest

handled_so : (p : Program) (d o : ℕ) (h : Units) → handled p d o h ≡ handled_in h (names_from p 0 (below (suc (length p)) p d o))
handled_so p d o h = refl

abbrev layer_handles : Program → Units → Layer → Bool
layer_handles p h layer = handles h (names_of_layer p 0 layer)

layer_anywhere : (p : Program) (h : Units) (layer : Layer) (place : ℕ) → handles h (names_of_layer p place layer) ≡ layer_handles p h layer
layer_anywhere p h (of_type t) place = refl
layer_anywhere p h (of_object d o) place = anywhere p d o h (object_at p d o).members place

layers_any : (p : Program) (h : Units) (ls : List Layer) (place : ℕ) → handles h (names_from p place ls) ≡ list_any (layer_handles p h) ls
layers_any p h [] place = refl
layers_any p h (l ∷ ls) place =
    handles_both h (names_of_layer p place l) (names_from p (place + cells_of_layer p l) ls) ∙
    ap (λ b. b || handles h (names_from p (place + cells_of_layer p l) ls)) (layer_anywhere p h l place) ∙
    ap (λ b. layer_handles p h l || b) (layers_any p h ls (place + cells_of_layer p l))

types_any : (p : Program) (h : Units) (ts : List TypeNo) → list_any (layer_handles p h) (map of_type ts) ≡ handles h (flat_map names_of_type ts)
types_any p h [] = refl
types_any p h (t ∷ ts) = ap (λ b. handles h (names_of_type t) || b) (types_any p h ts) ∙ sym (handles_both h (names_of_type t) (flat_map names_of_type ts))

-- ---- the tables

or_swapped : (a c : Bool) → (a || c) ≡ (c || a)
or_swapped true true = refl
or_swapped true false = refl
or_swapped false c = sym (or_none c)

base_is : (p : Program) (us : List UnitNames) → Stands p us → (u o : ℕ) (x : ObjectNames) → object_in us u o ≡ Some x → base_in us u o ≡ type_of_object p u o
base_is p us s u o x i = ap base_by i ∙ s.bases u o x i

abbrev TypeAsMeant : Program → List UnitNames → List UnitHandlers → ℕ → Units → Type 0
TypeAsMeant p us hs f h =
    (t : TypeRef) → Rooted us t → handled_below (λ e. handled_at f us hs e 0 h) h t ≡ list_any (layer_handles p h) (layers_of_type (λ e. below f p e 0) t)

object_as_meant : (p : Program) (us : List UnitNames) (hs : List UnitHandlers) → Stands p us → HandlersTold p us hs → (f : ℕ) (h : Units) → TypeAsMeant p us hs f h → (u o : ℕ) → is_there us u o ≡ true
    → handled_at (suc f) us hs u o h ≡ list_any (layer_handles p h) (below (suc f) p u o)
object_as_meant p us hs s told f h deeper u o l =
    let x = there us u o l in
    let t = type_of_object p u o in
    let lower : List Layer = layers_of_type (λ e. below f p e 0) t in
    let own = handles h (own_names p u o) in
    ap (λ b. b || handled_below (λ e. handled_at f us hs e 0 h) h (base_in us u o)) (told u o l h) ∙
    ap (λ b. own || handled_below (λ e. handled_at f us hs e 0 h) h b) (base_is p us s u o x.0 x.1) ∙
    ap (λ b. own || b) (deeper t (rooted_type p us s u o x.0 x.1)) ∙
    or_swapped own (list_any (layer_handles p h) lower) ∙ ap (λ b. list_any (layer_handles p h) lower || b) (sym (or_none own)) ∙
    sym (list_any-append (layer_handles p h) lower (of_object u o ∷ []))

type_as_meant : (p : Program) (us : List UnitNames) (hs : List UnitHandlers) → Stands p us → HandlersTold p us hs → (f : ℕ) (h : Units) → TypeAsMeant p us hs f h
type_as_meant p us hs s told f h (Builtin t) r = type_means t h ∙ sym (types_any p h (lineage t))
type_as_meant p us hs s told zero h (OfDocument e) r = refl
type_as_meant p us hs s told (suc f) h (OfDocument e) r = object_as_meant p us hs s told f h (type_as_meant p us hs s told f h) e.0 0 (r e refl)

pub handled_as_meant : (p : Program) (us : List UnitNames) (hs : List UnitHandlers) → Stands p us → HandlersTold p us hs → (d o : ℕ) → is_there us d o ≡ true → (h : Units)
    → handled_at (length us + 1) us hs d o h ≡ is_some (handled p d o h)
handled_as_meant p us hs s told d o l h =
    ap (λ f. handled_at f us hs d o h) (add-one (length us)) ∙
    object_as_meant p us hs s told (length us) h (type_as_meant p us hs s told (length us) h) d o l ∙
    ap (λ f. list_any (layer_handles p h) (below (suc f) p d o)) s.long ∙ sym (layers_any p h (below (suc (length p)) p d o) 0)

-- ---- tables that are made from rows

short : {X : Type 0} (xs : List X) (o : ℕ) → is_some (slice_get xs o) ≡ true → o < length xs
short [] zero h = absurd (false≢true h)
short [] (suc o) h = absurd (false≢true h)
short (x ∷ xs) zero h = omega arith
short (x ∷ xs) (suc o) h = let less : o < length xs = short xs o h in omega arith

unit_there : (us : List UnitNames) (d o : ℕ) → is_there us d o ≡ true → (unit : UnitNames) × ((slice_get us d ≡ Some unit) × (o < length unit.objects.items))
unit_there us d o l = cases (slice_get us d) refl l
  where
    cases : (y : Option UnitNames) → slice_get us d ≡ y → is_some (option_and_then (λ (unit : UnitNames). slice_get unit.objects.items o) y) ≡ true
        → (unit : UnitNames) × ((slice_get us d ≡ Some unit) × (o < length unit.objects.items))
    cases (Some unit) e g = (unit, (e, short unit.objects.items o g))
    cases None e g = absurd (false≢true g)

pub told_by_rows : (p : Program) (us : List UnitNames) (hs : List UnitHandlers) → ((d : ℕ) (unit : UnitNames) → slice_get us d ≡ Some unit → SaysHandlers p hs d unit) → HandlersTold p us hs
told_by_rows p us hs all d o l h =
    let x = unit_there us d o l in
    let s : SaysHandlers p hs d x.0 = all d x.0 x.1.0 in
    ap (λ y. is_some (option_and_then (λ (u : UnitHandlers). option_and_then (λ (z : Handlers). under z h) (slice_get u.objects.items o)) y)) s.kept ∙
    ap (λ ts. has_handler ts o h) s.made ∙
    rows_as_meant p d o h s.says.tree x.0.objects.items s.says.rows (unit_at p d).rows s.says.says x.1.1 ∙
    ap (λ ms. handles h (names_of_members p d o 0 ms)) (sym (s.says.members o))
