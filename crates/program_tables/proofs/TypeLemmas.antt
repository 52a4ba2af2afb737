-- The types of an object.
use Rattle.std.proofs.Common.{◌≡◌, ◌∙◌, ap, sym, refl, ℕ, zero, suc, ◌+◌, ◌-◌, ◌<◌, ◌≤◌, arith, add-one, Bool, true, false, List, [], ◌∷◌, length, map, reverse, Some}
use Rattle.std.specs.Prelude.{nat_eq, ◌||◌, if◌then◌else◌}
use Rattle.std.specs.List.{flat_map, list_any}
use Rattle.std.proofs.lemmas.List.{reverse-append}
use Rattle.std.proofs.lemmas.List.Folds.{list_any-append}
use Rattle.std.proofs.lemmas.Grind.{flat_map-append}
use Rattle.qml_base.specs.declared.numbers.UnitNo.{UnitNo}
use Rattle.qml_types.specs.declared.kind.TypeNo.{TypeNo}
use Rattle.qml_types.specs.declared.kind.TypeNo.TheVariants as no
use Rattle.qml_types.specs.declared.kind.TypeRef.{TypeRef}
use Rattle.qml_types.specs.declared.kind.TypeRef.TheVariants.{Builtin, Document as OfDocument}
use Rattle.qml_types.specs.Table.{lineage}
use Rattle.program_names.specs.Loaded.{Program, type_of_object}
use Rattle.program_names.specs.Layers.{Layer, of_type, of_object, types, same_type, same_ref, is_a}
use Rattle.program_tables.specs.declared.names.ObjectNames.{ObjectNames}
use Rattle.program_tables.specs.declared.names.UnitNames.{UnitNames}
use Rattle.program_tables.specs.BuiltIn.{index_of}
use Rattle.program_tables.specs.Walk.{object_in}
use Rattle.program_tables.specs.Stands.{is_there, Stands}
use Rattle.program_tables.specs.Types.{base_by, base_in, any_built_in, any_of}
use Rattle.program_tables.proofs.MeaningLemmas.{below, layers_of_type, Rooted, rooted_type, there}

-- ---- the walk

or_false : (b : Bool) → (b || false) ≡ b
or_false true = refl
or_false false = refl

or_true : (b : Bool) → (b || true) ≡ true
or_true true = refl
or_true false = refl

one_less : (f : ℕ) → suc f - 1 ≡ f
one_less f = omega arith

pub goes_to_base : (k : ℕ) (us : List UnitNames) (wanted base next : TypeRef) (e : UnitNo) (all : Bool) → 0 < k → base ≡ OfDocument e → false ≡ same_ref wanted base → next ≡ base_in us e.0 0
    → any_of k us wanted base ≡ all → any_of (k - 1) us wanted next ≡ all
goes_to_base zero us wanted base next e all h b n x l = absurd (omega arith)
goes_to_base (suc f) us wanted base next e all h b n x l =
    ap (λ j. any_of j us wanted next) (one_less f) ∙ ap (any_of f us wanted) x ∙ sym (or_false (any_of f us wanted (base_in us e.0 0))) ∙
    ap (λ c. any_of f us wanted (base_in us e.0 0) || c) (n ∙ ap (same_ref wanted) b) ∙ sym (ap (any_of (suc f) us wanted) b) ∙ l

pub is_it : (k : ℕ) (us : List UnitNames) (wanted base : TypeRef) (e : UnitNo) (all : Bool) → 0 < k → base ≡ OfDocument e → true ≡ same_ref wanted base
    → any_of k us wanted base ≡ all → true ≡ all
is_it zero us wanted base e all h b n l = absurd (omega arith)
is_it (suc f) us wanted base e all h b n l =
    sym (or_true (any_of f us wanted (base_in us e.0 0))) ∙
    ap (λ c. any_of f us wanted (base_in us e.0 0) || c) (n ∙ ap (same_ref wanted) b) ∙ sym (ap (any_of (suc f) us wanted) b) ∙ l

at_built_in : (k : ℕ) (us : List UnitNames) (wanted : TypeRef) (t : TypeNo) → any_of k us wanted (Builtin t) ≡ list_any (λ b. same_ref wanted (Builtin b)) (lineage t)
at_built_in zero us wanted t = refl
at_built_in (suc k) us wanted t = refl

pub ends_built_in : (k : ℕ) (us : List UnitNames) (wanted base : TypeRef) (t : TypeNo) (result all : Bool) → base ≡ Builtin t → result ≡ list_any (λ b. same_ref wanted (Builtin b)) (lineage t)
    → any_of k us wanted base ≡ all → result ≡ all
ends_built_in k us wanted base t result all b r l = r ∙ sym (at_built_in k us wanted t) ∙ ap (any_of k us wanted) (sym b) ∙ l

pub ends_unsettled : (k : ℕ) (us : List UnitNames) (wanted base : TypeRef) (result all : Bool) → k ≤ 0 → result ≡ any_built_in wanted base → any_of k us wanted base ≡ all → result ≡ all
ends_unsettled zero us wanted base result all h r l = r ∙ l
ends_unsettled (suc k) us wanted base result all h r l = absurd (omega arith)

pub same_index : (a b : TypeNo) → nat_eq (index_of a) (index_of b) ≡ same_type a b
same_index no.QtObject no.QtObject = refl
same_index no.QtObject _ = refl
same_index no.Component no.Component = refl
same_index no.Component _ = refl
same_index no.Item no.Item = refl
same_index no.Item _ = refl
same_index no.Timer no.Timer = refl
same_index no.Timer _ = refl
same_index no.Connections no.Connections = refl
same_index no.Connections _ = refl
same_index no.Binding no.Binding = refl
same_index no.Binding _ = refl
same_index no.State no.State = refl
same_index no.State _ = refl
same_index no.PropertyChanges no.PropertyChanges = refl
same_index no.PropertyChanges _ = refl
same_index no.ListModel no.ListModel = refl
same_index no.ListModel _ = refl
same_index no.ListElement no.ListElement = refl
same_index no.ListElement _ = refl
same_index no.Repeater no.Repeater = refl
same_index no.Repeater _ = refl
same_index no.Loader no.Loader = refl
same_index no.Loader _ = refl
same_index no.Host no.Host = refl
same_index no.Host _ = refl

-- ---- the types of an object

abbrev type_of_layer : Layer → List TypeRef
type_of_layer (of_type t) = Builtin t ∷ []
type_of_layer (of_object d o) = if nat_eq o 0 then OfDocument (record { 0 = d }) ∷ [] else []

types_so : (p : Program) (u o : ℕ) → types p u o ≡ reverse (flat_map type_of_layer (layers_of_type (λ e. below (suc (length p)) p e 0) (type_of_object p u o)))
types_so p u o = refl

or_swapped : (a b : Bool) → (a || b) ≡ (b || a)
or_swapped true b = sym (or_true b)
or_swapped false b = sym (or_false b)

any_either_way : {X : Type 0} (f : X → Bool) (xs : List X) → list_any f (reverse xs) ≡ list_any f xs
any_either_way f [] = refl
any_either_way f (x ∷ xs) =
    ap (list_any f) (reverse-append (x ∷ []) xs) ∙ list_any-append f (reverse xs) (x ∷ []) ∙ ap (λ b. b || (f x || false)) (any_either_way f xs) ∙
    or_swapped (list_any f xs) (f x || false) ∙ ap (λ b. b || list_any f xs) (or_false (f x))

any_of_types : (wanted : TypeRef) (ts : List TypeNo) → list_any (same_ref wanted) (flat_map type_of_layer (map of_type ts)) ≡ list_any (λ b. same_ref wanted (Builtin b)) ts
any_of_types wanted [] = refl
any_of_types wanted (t ∷ ts) = ap (λ b. same_ref wanted (Builtin t) || b) (any_of_types wanted ts)

base_is : (p : Program) (us : List UnitNames) → Stands p us → (u o : ℕ) (x : ObjectNames) → object_in us u o ≡ Some x → base_in us u o ≡ type_of_object p u o
base_is p us s u o x i = ap base_by i ∙ s.bases u o x i

any_below : (p : Program) (us : List UnitNames) → Stands p us → (f : ℕ) (wanted t : TypeRef) → Rooted us t
    → any_of f us wanted t ≡ list_any (same_ref wanted) (flat_map type_of_layer (layers_of_type (λ e. below f p e 0) t))
any_below p us s f wanted (Builtin t) r = at_built_in f us wanted t ∙ sym (any_of_types wanted (lineage t))
any_below p us s zero wanted (OfDocument e) r = refl
any_below p us s (suc f) wanted (OfDocument e) r =
    let x = there us e.0 0 (r e refl) in
    let t = type_of_object p e.0 0 in
    let lower : List Layer = layers_of_type (λ d. below f p d 0) t in
    ap (λ b. any_of f us wanted b || same_ref wanted (OfDocument e)) (base_is p us s e.0 0 x.0 x.1) ∙
    ap (λ b. b || same_ref wanted (OfDocument e)) (any_below p us s f wanted t (rooted_type p us s e.0 0 x.0 x.1)) ∙
    ap (λ b. list_any (same_ref wanted) (flat_map type_of_layer lower) || b) (sym (or_false (same_ref wanted (OfDocument e)))) ∙
    sym (list_any-append (same_ref wanted) (flat_map type_of_layer lower) (OfDocument e ∷ [])) ∙
    ap (list_any (same_ref wanted)) (sym (flat_map-append type_of_layer lower (of_object e.0 0 ∷ [])))

pub types_as_meant : (p : Program) (us : List UnitNames) → Stands p us → (u o : ℕ) → is_there us u o ≡ true → (wanted : TypeRef)
    → any_of (length us + 1) us wanted (base_in us u o) ≡ is_a p u o wanted
types_as_meant p us s u o h wanted =
    let x = there us u o h in
    ap (λ b. any_of (length us + 1) us wanted b) (base_is p us s u o x.0 x.1) ∙
    ap (λ f. any_of f us wanted (type_of_object p u o)) (add-one (length us) ∙ ap suc s.long) ∙
    any_below p us s (suc (length p)) wanted (type_of_object p u o) (rooted_type p us s u o x.0 x.1) ∙
    sym (any_either_way (same_ref wanted) (flat_map type_of_layer (layers_of_type (λ e. below (suc (length p)) p e 0) (type_of_object p u o))))
