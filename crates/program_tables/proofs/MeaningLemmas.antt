-- What is found in the tables of a program is what a name means in it.
use Rattle.std.proofs.Common.{◌≡◌, ◌∙◌, ap, sym, refl, ℕ, zero, suc, ◌+◌, arith, add-one, List, [], ◌∷◌, ◌++◌, length, map, Option, Some, None, is_some}
use Rattle.std.specs.Option.{option_map, option_or}
use Rattle.std.specs.Prelude.{if◌then◌else◌, Bool, true, false}
use Rattle.std.specs.Str.{bytes_eq}
use Rattle.std.proofs.lemmas.Bool.{false≢true}
use Rattle.name_table.specs.Named.{under}
use Rattle.qml_base.specs.declared.numbers.UnitNo.{UnitNo}
use Rattle.qml_base.specs.declared.numbers.Place.{Place}
use Rattle.std.proofs.lemmas.List.{map-append}
use Rattle.program_tables.specs.declared.built_in.BuiltInName.{BuiltInName}
use Rattle.std.specs.List.{flat_map}
use Rattle.qml_syntax.specs.Tree.{Units}
use Rattle.qml_types.specs.declared.kind.TypeNo.{TypeNo}
use Rattle.qml_types.specs.declared.kind.TypeNo.TheVariants as no
use Rattle.qml_types.specs.declared.kind.TypeRef.{TypeRef}
use Rattle.qml_types.specs.declared.kind.TypeRef.TheVariants.{Builtin, Document as OfDocument}
use Rattle.qml_types.specs.Table.{cells_of, own_cells, lineage}
use Rattle.program_names.specs.Written.{WrittenMember, a_property}
use Rattle.program_names.specs.Loaded.{Program, object_at, type_of_object}
use Rattle.program_names.specs.Layers.{Layer, of_type, of_object, Named, NameMeaning, a_cell, names_of_type, cells_of_layer, names, own_names, meaning_in, meaning, names_of_member, cells_of_member, names_of_members, names_of_layer}
use Rattle.program_tables.specs.declared.names.Declared.{Declared}
use Rattle.program_tables.specs.declared.names.Declared.TheVariants as d
use Rattle.program_tables.specs.declared.names.Meaning.{Meaning}
use Rattle.program_tables.specs.declared.names.Meaning.TheVariants as m
use Rattle.program_tables.specs.declared.names.ObjectNames.{ObjectNames}
use Rattle.program_tables.specs.declared.names.UnitNames.{UnitNames}
use Rattle.program_tables.specs.BuiltIn.{built_in_meaning, built_in}
use Rattle.program_tables.specs.Walk.{object_in, meaning_of, raised, cells_by_type, cells_by, cells_at, found_by_type, found_by, found_at}
use Rattle.program_tables.specs.Stands.{meant, is_there, Stands}
use Rattle.program_tables.proofs.NameLemmas.{in_both, built_in_means}

-- ---- the definitions of names layer by layer, by the words that they are made of

abbrev pub named : Units → Place → NameMeaning → Named
named name at what = record { name = name; at = at; what = what }

abbrev names_from : Program → ℕ → List Layer → List Named
names_from p place [] = []
names_from p place (layer ∷ rest) = names_of_layer p place layer ++ names_from p (place + cells_of_layer p layer) rest

abbrev pub layers_of_type : (ℕ → List Layer) → TypeRef → List Layer
layers_of_type document (Builtin t) = map of_type (lineage t)
layers_of_type document (OfDocument u) = document u.0

abbrev pub below : ℕ → Program → ℕ → ℕ → List Layer
below zero p u o = []
below (suc f) p u o = layers_of_type (λ e. below f p e 0) (type_of_object p u o) ++ of_object u o ∷ []

abbrev cells_from : Program → List Layer → ℕ
cells_from p [] = 0
cells_from p (layer ∷ rest) = cells_of_layer p layer + cells_from p rest

names_so : (p : Program) (u o : ℕ) → names p u o ≡ names_from p 0 (below (suc (length p)) p u o)
names_so p u o = refl

own_names_so : (p : Program) (u o : ℕ) → own_names p u o ≡ names_of_members p u o 0 (object_at p u o).members
own_names_so p u o = refl

-- ---- sums

sum_assoc : (a b c : ℕ) → (a + b) + c ≡ a + (b + c)
sum_assoc a b c = omega arith

sum_swapped : (a b c : ℕ) → (a + b) + c ≡ (a + c) + b
sum_swapped a b c = omega arith

from_none : (a : ℕ) → 0 + a ≡ a
from_none a = omega arith

and_none : (a : ℕ) → a + 0 ≡ a
and_none a = omega arith

assoc : {A : Type 0} (a b c : List A) → (a ++ b) ++ c ≡ a ++ (b ++ c)
assoc [] b c = refl
assoc (x ∷ a) b c = ap (λ xs. x ∷ xs) (assoc a b c)

and_nothing : {A : Type 0} (a : List A) → a ++ [] ≡ a
and_nothing [] = refl
and_nothing (x ∷ a) = ap (λ xs. x ∷ xs) (and_nothing a)

names_of_two : (p : Program) (place : ℕ) (ls ms : List Layer) → names_from p place (ls ++ ms) ≡ names_from p place ls ++ names_from p (place + cells_from p ls) ms
names_of_two p place [] ms = ap (λ k. names_from p k ms) (sym (and_none place))
names_of_two p place (l ∷ ls) ms =
    ap (λ ns. names_of_layer p place l ++ ns)
    (names_of_two p (place + cells_of_layer p l) ls ms ∙ ap (λ k. names_from p (place + cells_of_layer p l) ls ++ names_from p k ms) (sum_assoc place (cells_of_layer p l) (cells_from p ls))) ∙
    sym (assoc (names_of_layer p place l) (names_from p (place + cells_of_layer p l) ls) (names_from p (place + (cells_of_layer p l + cells_from p ls)) ms))

cells_of_two : (p : Program) (ls ms : List Layer) → cells_from p (ls ++ ms) ≡ cells_from p ls + cells_from p ms
cells_of_two p [] ms = sym (from_none (cells_from p ms))
cells_of_two p (l ∷ ls) ms = ap (λ k. cells_of_layer p l + k) (cells_of_two p ls ms) ∙ sym (sum_assoc (cells_of_layer p l) (cells_from p ls) (cells_from p ms))

-- ---- built-in layers

names_of_types : (p : Program) (place : ℕ) (ts : List TypeNo) → names_from p place (map of_type ts) ≡ flat_map names_of_type ts
names_of_types p place [] = refl
names_of_types p place (t ∷ ts) = ap (λ ns. names_of_type t ++ ns) (names_of_types p (place + length (own_cells t)) ts)

cells_of_types : (p : Program) (t : TypeNo) → cells_from p (map of_type (lineage t)) ≡ length (cells_of t)
cells_of_types p no.QtObject = refl
cells_of_types p no.Component = refl
cells_of_types p no.Item = refl
cells_of_types p no.Timer = refl
cells_of_types p no.Connections = refl
cells_of_types p no.Binding = refl
cells_of_types p no.State = refl
cells_of_types p no.PropertyChanges = refl
cells_of_types p no.ListModel = refl
cells_of_types p no.ListElement = refl
cells_of_types p no.Repeater = refl
cells_of_types p no.Loader = refl
cells_of_types p no.Host = refl

-- ---- places counted from further on

abbrev lifted : ℕ → NameMeaning → NameMeaning
lifted c (a_cell place k a) = a_cell (place + c) k a
lifted c other = other

abbrev lifted_name : ℕ → Named → Named
lifted_name c n = named n.name n.at (lifted c n.what)

lifted_in : (c : ℕ) (ns : List Named) (name : Units) → meaning_in (map (lifted_name c) ns) name ≡ option_map (lifted c) (meaning_in ns name)
lifted_in c [] name = refl
lifted_in c (n ∷ ns) name = cases (lifted_in c ns name) (bytes_eq n.name name)
  where
    cases : meaning_in (map (lifted_name c) ns) name ≡ option_map (lifted c) (meaning_in ns name) → (t : Bool) → (if t then Some (lifted c n.what) else meaning_in (map (lifted_name c) ns) name) ≡ option_map (lifted c) (if t then Some n.what else meaning_in ns name)
    cases h true = refl
    cases h false = h

member_lifted : (p : Program) (u o place c : ℕ) (x : WrittenMember) → names_of_member p u o (place + c) x ≡ map (lifted_name c) (names_of_member p u o place x)
member_lifted p u o place c (a_property q a k n at v) = refl
member_lifted p u o place c _ = refl

members_lifted : (p : Program) (u o place c : ℕ) (ms : List WrittenMember) → names_of_members p u o (place + c) ms ≡ map (lifted_name c) (names_of_members p u o place ms)
members_lifted p u o place c [] = refl
members_lifted p u o place c (x ∷ ms) =
    ap (λ k. names_of_member p u o (place + c) x ++ names_of_members p u o k ms) (sum_swapped place c (cells_of_member x)) ∙
    ap (λ ns. names_of_member p u o (place + c) x ++ ns) (members_lifted p u o (place + cells_of_member x) c ms) ∙
    ap (λ ns. ns ++ map (lifted_name c) (names_of_members p u o (place + cells_of_member x) ms)) (member_lifted p u o place c x) ∙
    sym (map-append (lifted_name c) (names_of_member p u o place x) (names_of_members p u o (place + cells_of_member x) ms))

own_lifted : (p : Program) (u o c : ℕ) (name : Units) → meaning_in (names_of_members p u o (0 + c) (object_at p u o).members ++ []) name ≡ option_map (lifted c) (meaning_in (own_names p u o) name)
own_lifted p u o c name =
    ap (λ ns. meaning_in ns name) (and_nothing (names_of_members p u o (0 + c) (object_at p u o).members) ∙ members_lifted p u o 0 c (object_at p u o).members) ∙
    lifted_in c (own_names p u o) name

raised_means : (p : Program) (c u o : ℕ) (x : Declared) → meant p (raised c (meaning_of u o x)) ≡ lifted c (meant p (meaning_of u o x))
raised_means p c u o (d.Cell place k a) = refl
raised_means p c u o _ = refl

all_raised : (p : Program) (c u o : ℕ) (x : Option Declared)
    → option_map (meant p) (option_map (raised c) (option_map (meaning_of u o) x)) ≡ option_map (lifted c) (option_map (meant p) (option_map (meaning_of u o) x))
all_raised p c u o None = refl
all_raised p c u o (Some x) = ap Some (raised_means p c u o x)

-- ---- the tables

meant_or : (p : Program) (a b : Option Meaning) → option_map (meant p) (option_or a b) ≡ option_or (option_map (meant p) a) (option_map (meant p) b)
meant_or p None b = refl
meant_or p (Some a) b = refl

built_in_meant : (p : Program) (x : Option BuiltInName) → option_map (meant p) (option_map m.BuiltIn x) ≡ option_map built_in_meaning x
built_in_meant p None = refl
built_in_meant p (Some x) = refl

abbrev Deeper : Program → List UnitNames → ℕ → Type 0
Deeper p us f =
    ((e : ℕ) → is_there us e 0 ≡ true → (name : Units) → option_map (meant p) (found_at f us e 0 name) ≡ meaning_in (names_from p 0 (below f p e 0)) name) ×
    ((e : ℕ) → is_there us e 0 ≡ true → cells_at f us e 0 ≡ cells_from p (below f p e 0))

abbrev pub Rooted : List UnitNames → TypeRef → Type 0
Rooted us t = (e : UnitNo) → t ≡ OfDocument e → is_there us e.0 0 ≡ true

type_cells : (p : Program) (us : List UnitNames) (f : ℕ) → Deeper p us f → (t : TypeRef) → Rooted us t → cells_by_type (λ e. cells_at f us e 0) t ≡ cells_from p (layers_of_type (λ e. below f p e 0) t)
type_cells p us f h (Builtin t) r = sym (cells_of_types p t)
type_cells p us f h (OfDocument u) r = h.1 u.0 (r u refl)

type_means : (p : Program) (us : List UnitNames) (f : ℕ) → Deeper p us f → (t : TypeRef) → Rooted us t → (name : Units)
    → option_map (meant p) (found_by_type (λ e. found_at f us e 0 name) name t) ≡ meaning_in (names_from p 0 (layers_of_type (λ e. below f p e 0) t)) name
type_means p us f h (Builtin t) r name =
    built_in_meant p (built_in t name) ∙ built_in_means t name ∙ ap (λ ns. meaning_in ns name) (sym (names_of_types p 0 (lineage t)))
type_means p us f h (OfDocument u) r name = h.0 u.0 (r u refl) name

pub rooted_type : (p : Program) (us : List UnitNames) → Stands p us → (u o : ℕ) (x : ObjectNames) → object_in us u o ≡ Some x → Rooted us (type_of_object p u o)
rooted_type p us s u o x i e g = s.rooted u o x e i (s.bases u o x i ∙ g)

cells_there : (p : Program) (us : List UnitNames) → Stands p us → (f : ℕ) → Deeper p us f → (u o : ℕ) (x : ObjectNames) → object_in us u o ≡ Some x → cells_at (suc f) us u o ≡ cells_from p (below (suc f) p u o)
cells_there p us s f h u o x i =
    ap (cells_by (λ e. cells_at f us e 0)) i ∙
    ap (λ t. cells_by_type (λ e. cells_at f us e 0) t + x.cells) (s.bases u o x i) ∙
    ap (λ k. k + x.cells) (type_cells p us f h (type_of_object p u o) (rooted_type p us s u o x i)) ∙
    ap (λ k. cells_from p (layers_of_type (λ e. below f p e 0) (type_of_object p u o)) + k) (s.cells u o x i ∙ sym (and_none (cells_of_layer p (of_object u o)))) ∙
    sym (cells_of_two p (layers_of_type (λ e. below f p e 0) (type_of_object p u o)) (of_object u o ∷ []))

means_there : (p : Program) (us : List UnitNames) → Stands p us → (f : ℕ) → Deeper p us f → (u o : ℕ) (x : ObjectNames) → object_in us u o ≡ Some x → (name : Units)
    → option_map (meant p) (found_at (suc f) us u o name) ≡ meaning_in (names_from p 0 (below (suc f) p u o)) name
means_there p us s f h u o x i name =
    let t = type_of_object p u o in
    let r : Rooted us t = rooted_type p us s u o x i in
    let lower : List Layer = layers_of_type (λ e. below f p e 0) t in
    let own = option_map (meaning_of u o) (under x.names name) in
    ap (λ y. option_map (meant p) (found_by (λ e. found_at f us e 0 name) (λ e. cells_at f us e 0) u o name y)) i ∙
    ap (λ b. option_map (meant p) (option_or (found_by_type (λ e. found_at f us e 0 name) name b) (option_map (raised (cells_by_type (λ e. cells_at f us e 0) b)) own))) (s.bases u o x i) ∙
    meant_or p (found_by_type (λ e. found_at f us e 0 name) name t) (option_map (raised (cells_by_type (λ e. cells_at f us e 0) t)) own) ∙
    ap (λ y. option_or y (option_map (meant p) (option_map (raised (cells_by_type (λ e. cells_at f us e 0) t)) own))) (type_means p us f h t r name) ∙
    ap (λ y. option_or (meaning_in (names_from p 0 lower) name) y)
    (all_raised p (cells_by_type (λ e. cells_at f us e 0) t) u o (under x.names name) ∙
    ap (option_map (lifted (cells_by_type (λ e. cells_at f us e 0) t))) (s.names u o x i name) ∙
    ap (λ c. option_map (lifted c) (meaning_in (own_names p u o) name)) (type_cells p us f h t r) ∙
    sym (own_lifted p u o (cells_from p lower) name)) ∙
    sym (in_both (names_from p 0 lower) (names_of_members p u o (0 + cells_from p lower) (object_at p u o).members ++ []) name) ∙
    ap (λ ns. meaning_in ns name) (sym (names_of_two p 0 lower (of_object u o ∷ [])))

-- what is there
pub there : (us : List UnitNames) (u o : ℕ) → is_there us u o ≡ true → (x : ObjectNames) × (object_in us u o ≡ Some x)
there us u o h = cases (object_in us u o) refl h
  where
    cases : (y : Option ObjectNames) → object_in us u o ≡ y → is_some y ≡ true → (x : ObjectNames) × (object_in us u o ≡ Some x)
    cases (Some x) e g = (x, e)
    cases None e g = absurd (false≢true g)

deeper : (p : Program) (us : List UnitNames) → Stands p us → (f : ℕ) → Deeper p us f
deeper p us s zero = ((λ e h name. refl), (λ e h. refl))
deeper p us s (suc f) =
    let lower = deeper p us s f in (
      (λ e h name. let x = there us e 0 h in means_there p us s f lower e 0 x.0 x.1 name),
      (λ e h. let x = there us e 0 h in cells_there p us s f lower e 0 x.0 x.1),
    )

pub found_as_meant : (p : Program) (us : List UnitNames) → Stands p us → (u o : ℕ) → is_there us u o ≡ true → (name : Units)
    → option_map (meant p) (found_at (length us + 1) us u o name) ≡ meaning p u o name
found_as_meant p us s u o h name =
    let x = there us u o h in
    ap (λ f. option_map (meant p) (found_at f us u o name)) (add-one (length us)) ∙
    means_there p us s (length us) (deeper p us s (length us)) u o x.0 x.1 name ∙
    ap (λ f. meaning_in (names_from p 0 (below (suc f) p u o)) name) s.long
