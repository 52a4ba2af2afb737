-- Default properties of objects.
use Rattle.std.proofs.Common.{◌≡◌, ◌∙◌, ap, sym, refl, ℕ, zero, suc, ◌+◌, ◌-◌, ◌<◌, ◌≤◌, arith, add-one, true, List, [], ◌∷◌, ◌++◌, length, map, Option, Some, None}
use Rattle.std.specs.Option.{option_map, option_or, unwrap_or}
use Rattle.qml_base.specs.declared.numbers.UnitNo.{UnitNo}
use Rattle.qml_types.specs.declared.kind.TypeNo.{TypeNo}
use Rattle.qml_types.specs.declared.kind.TypeNo.TheVariants as no
use Rattle.qml_types.specs.declared.kind.TypeRef.{TypeRef}
use Rattle.qml_types.specs.declared.kind.TypeRef.TheVariants.{Builtin, Document as OfDocument}
use Rattle.qml_types.specs.declared.members.DefaultMember.{DefaultMember}
use Rattle.qml_types.specs.Table.{lineage}
use Rattle.qml_types.specs.Members.{default_member}
use Rattle.program_names.specs.Loaded.{Program, object_at, type_of_object}
use Rattle.program_names.specs.Layers.{Layer, of_type, of_object, DefaultProperty, no_default, default_of}
use Rattle.program_tables.specs.declared.names.DefaultPlace.{DefaultPlace}
use Rattle.program_tables.specs.declared.names.DefaultPlace.TheVariants as place
use Rattle.program_tables.specs.declared.names.ObjectNames.{ObjectNames}
use Rattle.program_tables.specs.declared.names.UnitNames.{UnitNames}
use Rattle.program_tables.specs.Walk.{object_in}
use Rattle.program_tables.specs.Stands.{is_there, last_default, MeansDefault, default_by, default_meant, Stands}
use Rattle.program_tables.specs.Defaults.{default_by_type, default_of_object, default_at}
use Rattle.program_tables.proofs.NameLemmas.{or_assoc}
use Rattle.program_tables.proofs.MeaningLemmas.{below, layers_of_type, Rooted, rooted_type, there}

-- ---- the walk

one_less : (f : ℕ) → suc f - 1 ≡ f
one_less f = omega arith

opened : (f : ℕ) (us : List UnitNames) (u o : ℕ) (x : ObjectNames) → Some x ≡ object_in us u o
    → default_at (suc f) us u o ≡ option_or (option_map (place.Declared u) x.default) (default_by_type (λ e. default_at f us e 0) x.base)
opened f us u o x i = ap (default_of_object (λ e. default_at f us e 0) u) (sym i)

at_type : (f : ℕ) (us : List UnitNames) (u o : ℕ) (x : ObjectNames) (t : TypeRef) → Some x ≡ object_in us u o → Path (Option ℕ) x.default None → x.base ≡ t
    → default_at (suc f) us u o ≡ default_by_type (λ e. default_at f us e 0) t
at_type f us u o x t i d b =
    opened f us u o x i ∙ ap (λ y. option_or (option_map (place.Declared u) y) (default_by_type (λ e. default_at f us e 0) x.base)) d ∙
    ap (default_by_type (λ e. default_at f us e 0)) b

pub goes_on : (k : ℕ) (us : List UnitNames) (u o : ℕ) (x : ObjectNames) (e : UnitNo) (all : Option DefaultPlace) → 0 < k → Some x ≡ object_in us u o → Path (Option ℕ) x.default None → x.base ≡ OfDocument e
    → default_at k us u o ≡ all → default_at (k - 1) us e.0 0 ≡ all
goes_on zero us u o x e all h i d b l = absurd (omega arith)
goes_on (suc f) us u o x e all h i d b l = ap (λ j. default_at j us e.0 0) (one_less f) ∙ sym (at_type f us u o x (OfDocument e) i d b) ∙ l

pub ends_below : (k : ℕ) (us : List UnitNames) (u o : ℕ) (x : ObjectNames) (t : TypeNo) (result all : Option DefaultPlace) → 0 < k → Some x ≡ object_in us u o → Path (Option ℕ) x.default None → x.base ≡ Builtin t
    → result ≡ option_map (place.BuiltIn t) (default_member t) → default_at k us u o ≡ all → result ≡ all
ends_below zero us u o x t result all h i d b r l = absurd (omega arith)
ends_below (suc f) us u o x t result all h i d b r l = r ∙ sym (at_type f us u o x (Builtin t) i d b) ∙ l

pub declares_it : (k : ℕ) (us : List UnitNames) (u o : ℕ) (x : ObjectNames) (row : ℕ) (all : Option DefaultPlace) → 0 < k → Some x ≡ object_in us u o → x.default ≡ Some row
    → default_at k us u o ≡ all → Some (place.Declared u row) ≡ all
declares_it zero us u o x row all h i d l = absurd (omega arith)
declares_it (suc f) us u o x row all h i d l =
    sym (ap (λ y. option_or (option_map (place.Declared u) y) (default_by_type (λ e. default_at f us e 0) x.base)) d) ∙ sym (opened f us u o x i) ∙ l

pub ends_without : (k : ℕ) (us : List UnitNames) (u o : ℕ) (all : Option DefaultPlace) → 0 < k → Path (Option ObjectNames) None (object_in us u o) → default_at k us u o ≡ all
    → Path (Option DefaultPlace) None all
ends_without zero us u o all h i l = absurd (omega arith)
ends_without (suc f) us u o all h i l = sym (ap (default_of_object (λ e. default_at f us e 0) u) (sym i)) ∙ l

pub ends_at_last : (k : ℕ) (us : List UnitNames) (u o : ℕ) (all : Option DefaultPlace) → k ≤ 0 → default_at k us u o ≡ all → Path (Option DefaultPlace) None all
ends_at_last zero us u o all h l = l
ends_at_last (suc k) us u o all h l = absurd (omega arith)

-- ---- the definition layer by layer, by the words that it is made of

abbrev of_layer : Program → Layer → Option DefaultProperty
of_layer p (of_type t) = option_map (default_by t) (default_member t)
of_layer p (of_object d o) = last_default (object_at p d o).members

abbrev of_layers : Program → List Layer → Option DefaultProperty
of_layers p [] = None
of_layers p (layer ∷ rest) = option_or (of_layers p rest) (of_layer p layer)

default_so : (p : Program) (u o : ℕ) → default_of p u o ≡ unwrap_or (of_layers p (below (suc (length p)) p u o)) no_default
default_so p u o = refl

none_behind : (x : Option DefaultProperty) → x ≡ option_or x None
none_behind None = refl
none_behind (Some x) = refl

of_two : (p : Program) (a b : List Layer) → of_layers p (a ++ b) ≡ option_or (of_layers p b) (of_layers p a)
of_two p [] b = none_behind (of_layers p b)
of_two p (l ∷ a) b = ap (λ x. option_or x (of_layer p l)) (of_two p a b) ∙ or_assoc (of_layers p b) (of_layers p a) (of_layer p l)

of_types : (p : Program) (t : TypeNo) → of_layers p (map of_type (lineage t)) ≡ option_map (default_by t) (default_member t)
of_types p no.QtObject = refl
of_types p no.Component = refl
of_types p no.Item = refl
of_types p no.Timer = refl
of_types p no.Connections = refl
of_types p no.Binding = refl
of_types p no.State = refl
of_types p no.PropertyChanges = refl
of_types p no.ListModel = refl
of_types p no.ListElement = refl
of_types p no.Repeater = refl
of_types p no.Loader = refl
of_types p no.Host = refl

-- ---- what is found

own_means : (p : Program) (u : ℕ) (row : Option ℕ) (x : Option DefaultProperty) → MeansDefault p u row x → option_map (default_meant p) (option_map (place.Declared u) row) ≡ x
own_means p u None None h = refl
own_means p u (Some row) (Some x) h = ap (λ y. Some (unwrap_or y no_default)) h
own_means p u None (Some x) h = absurd h
own_means p u (Some row) None h = absurd h

built_in_means : (p : Program) (t : TypeNo) → option_map (default_meant p) (option_map (place.BuiltIn t) (default_member t)) ≡ option_map (default_by t) (default_member t)
built_in_means p t = by_member (default_member t)
  where
    by_member : (y : Option DefaultMember) → option_map (default_meant p) (option_map (place.BuiltIn t) y) ≡ option_map (default_by t) y
    by_member None = refl
    by_member (Some y) = refl

means_or : (p : Program) (a b : Option DefaultPlace) → option_map (default_meant p) (option_or a b) ≡ option_or (option_map (default_meant p) a) (option_map (default_meant p) b)
means_or p None b = refl
means_or p (Some a) b = refl

abbrev Deeper : Program → List UnitNames → ℕ → Type 0
Deeper p us f = (e : ℕ) → is_there us e 0 ≡ true → option_map (default_meant p) (default_at f us e 0) ≡ of_layers p (below f p e 0)

type_means : (p : Program) (us : List UnitNames) (f : ℕ) → Deeper p us f → (t : TypeRef) → Rooted us t
    → option_map (default_meant p) (default_by_type (λ e. default_at f us e 0) t) ≡ of_layers p (layers_of_type (λ e. below f p e 0) t)
type_means p us f h (Builtin t) r = built_in_means p t ∙ sym (of_types p t)
type_means p us f h (OfDocument e) r = h e.0 (r e refl)

means_there : (p : Program) (us : List UnitNames) → Stands p us → (f : ℕ) → Deeper p us f → (u o : ℕ) (x : ObjectNames) → object_in us u o ≡ Some x
    → option_map (default_meant p) (default_at (suc f) us u o) ≡ of_layers p (below (suc f) p u o)
means_there p us s f h u o x i =
    let t = type_of_object p u o in
    let lower : List Layer = layers_of_type (λ e. below f p e 0) t in
    ap (option_map (default_meant p)) (opened f us u o x (sym i)) ∙
    ap (λ b. option_map (default_meant p) (option_or (option_map (place.Declared u) x.default) (default_by_type (λ e. default_at f us e 0) b))) (s.bases u o x i) ∙
    means_or p (option_map (place.Declared u) x.default) (default_by_type (λ e. default_at f us e 0) t) ∙
    ap (λ y. option_or y (option_map (default_meant p) (default_by_type (λ e. default_at f us e 0) t))) (own_means p u x.default (last_default (object_at p u o).members) (s.defaults u o x i)) ∙
    ap (λ y. option_or (last_default (object_at p u o).members) y) (type_means p us f h t (rooted_type p us s u o x i)) ∙
    sym (of_two p lower (of_object u o ∷ []))

deeper : (p : Program) (us : List UnitNames) → Stands p us → (f : ℕ) → Deeper p us f
deeper p us s zero e h = refl
deeper p us s (suc f) e h = let x = there us e 0 h in means_there p us s f (deeper p us s f) e 0 x.0 x.1

abbrev pub or_no_default : Option DefaultProperty → DefaultProperty
or_no_default x = unwrap_or x no_default

pub default_as_meant : (p : Program) (us : List UnitNames) → Stands p us → (u o : ℕ) → is_there us u o ≡ true
    → unwrap_or (option_map (default_meant p) (default_at (length us + 1) us u o)) no_default ≡ default_of p u o
default_as_meant p us s u o h =
    let x = there us u o h in
    ap (λ f. unwrap_or (option_map (default_meant p) (default_at f us u o)) no_default) (add-one (length us)) ∙
    ap or_no_default (means_there p us s (length us) (deeper p us s (length us)) u o x.0 x.1) ∙
    ap (λ f. unwrap_or (of_layers p (below (suc f) p u o)) no_default) s.long
