-- The target that is found is that of the program.
use Rattle.std.proofs.Common.{◌≡◌, ◌∙◌, ap, sym, refl, subst, ℕ, zero, suc, ◌+◌, add-one, Bool, true, false, List, [], ◌∷◌, ◌++◌, length, map, Option, Some, None, is_some}
use Rattle.std.specs.Option.{option_map, option_or, option_and_then, unwrap_or}
use Rattle.std.specs.Prelude.{nat_eq, if◌then◌else◌}
use Rattle.std.proofs.lemmas.Bool.{false≢true}
use Rattle.qml_types.specs.declared.kind.TypeNo.{TypeNo}
use Rattle.qml_types.specs.declared.kind.TypeRef.{TypeRef}
use Rattle.qml_types.specs.declared.kind.TypeRef.TheVariants.{Builtin, Document as OfDocument}
use Rattle.qml_types.specs.Table.{lineage}
use Rattle.program_names.specs.Loaded.{Program, object_at, type_of_object}
use Rattle.program_names.specs.Layers.{Layer, of_type, of_object}
use Rattle.program_names.specs.Components.{Roots}
use Rattle.program_names.specs.PathMeanings.{SeenObject, way_to, here}
use Rattle.program_names.specs.ComponentRoots.{target_in, id_of, target_of}
use Rattle.program_tables.specs.declared.names.ObjectNames.{ObjectNames}
use Rattle.program_tables.specs.declared.names.UnitNames.{UnitNames}
use Rattle.program_tables.specs.Walk.{object_in}
use Rattle.program_tables.specs.Stands.{is_there, Stands}
use Rattle.program_tables.specs.Types.{base_by, base_in}
use Rattle.program_tables.proofs.MeaningLemmas.{below, layers_of_type, Rooted, rooted_type, there}
use Rattle.change_targets.specs.declared.walking.UnitTargets.{UnitTargets}
use Rattle.change_targets.specs.Targets.{named_at, in_document, target_below, target_at}
use Rattle.change_targets.specs.Told.{TargetsTold, place_of, IsThere}

-- ---- the definition, by the words that it is made of

abbrev seen_from : ℕ → ℕ → ℕ → ℕ → SeenObject
seen_from d o e t = record { holder = if nat_eq e d then None else Some (way_to (here d o)); document = e; object = t }

abbrev of_layer : Program → Roots → ℕ → ℕ → Layer → Option SeenObject
of_layer p roots d o (of_type t) = None
of_layer p roots d o (of_object e i) = option_map (seen_from d o e) (option_and_then (id_of p roots e i) (target_in (object_at p e i).members))

abbrev last_target : Program → Roots → ℕ → ℕ → List Layer → Option SeenObject
last_target p roots d o [] = None
last_target p roots d o (layer ∷ rest) = option_or (last_target p roots d o rest) (of_layer p roots d o layer)

target_so : (p : Program) (roots : Roots) (d o : ℕ) → target_of p roots d o ≡ last_target p roots d o (below (suc (length p)) p d o)
target_so p roots d o = refl

-- the target of a layer without its way
abbrev bare : Program → Roots → Layer → Option (ℕ × ℕ)
bare p roots (of_type t) = None
bare p roots (of_object e i) = option_map (in_document e) (option_and_then (id_of p roots e i) (target_in (object_at p e i).members))

abbrev last_bare : Program → Roots → List Layer → Option (ℕ × ℕ)
last_bare p roots [] = None
last_bare p roots (layer ∷ rest) = option_or (last_bare p roots rest) (bare p roots layer)

layer_bare : (p : Program) (roots : Roots) (d o : ℕ) (layer : Layer) → option_map place_of (of_layer p roots d o layer) ≡ bare p roots layer
layer_bare p roots d o (of_type t) = refl
layer_bare p roots d o (of_object e i) = by_id (option_and_then (id_of p roots e i) (target_in (object_at p e i).members))
  where
    by_id : (x : Option ℕ) → option_map place_of (option_map (seen_from d o e) x) ≡ option_map (in_document e) x
    by_id None = refl
    by_id (Some t) = refl

mapped_or : (a c : Option SeenObject) → option_map place_of (option_or a c) ≡ option_or (option_map place_of a) (option_map place_of c)
mapped_or None c = refl
mapped_or (Some a) c = refl

layers_bare : (p : Program) (roots : Roots) (d o : ℕ) (ls : List Layer) → option_map place_of (last_target p roots d o ls) ≡ last_bare p roots ls
layers_bare p roots d o [] = refl
layers_bare p roots d o (l ∷ ls) =
    mapped_or (last_target p roots d o ls) (of_layer p roots d o l) ∙
    ap (λ x. option_or x (option_map place_of (of_layer p roots d o l))) (layers_bare p roots d o ls) ∙
    ap (option_or (last_bare p roots ls)) (layer_bare p roots d o l)

none_behind : (x : Option (ℕ × ℕ)) → x ≡ option_or x None
none_behind None = refl
none_behind (Some x) = refl

or_assoc : (a b c : Option (ℕ × ℕ)) → option_or (option_or a b) c ≡ option_or a (option_or b c)
or_assoc (Some a) b c = refl
or_assoc None b c = refl

of_two : (p : Program) (roots : Roots) (a b : List Layer) → last_bare p roots (a ++ b) ≡ option_or (last_bare p roots b) (last_bare p roots a)
of_two p roots [] b = none_behind (last_bare p roots b)
of_two p roots (l ∷ a) b = ap (λ x. option_or x (bare p roots l)) (of_two p roots a b) ∙ or_assoc (last_bare p roots b) (last_bare p roots a) (bare p roots l)

of_types : (p : Program) (roots : Roots) (ts : List TypeNo) → last_bare p roots (map of_type ts) ≡ None
of_types p roots [] = refl
of_types p roots (t ∷ ts) = ap (λ x. option_or x None) (of_types p roots ts)

-- ---- what is found

base_is : (p : Program) (us : List UnitNames) → Stands p us → (u o : ℕ) (x : ObjectNames) → object_in us u o ≡ Some x → base_in us u o ≡ type_of_object p u o
base_is p us s u o x i = ap base_by i ∙ s.bases u o x i

none_some : {A : Type 0} {X : Type 0} (x : A) → Path (Option A) None (Some x) → X
none_some x e = absurd (false≢true (ap is_some e))

-- what is said of each target that is found below
record Says (p : Program) (roots : Roots) (us : List UnitNames) (found : Option (ℕ × ℕ)) (ls : List Layer) : Type 0 where
  same : found ≡ last_bare p roots ls
  there : IsThere us found

abbrev TypeSays : Program → Roots → List UnitNames → List UnitTargets → ℕ → Type 0
TypeSays p roots us ts f =
    (t : TypeRef) → Rooted us t → Says p roots us (target_below (λ e. target_at f us ts e 0) t) (layers_of_type (λ e. below f p e 0) t)

own_there : (us : List UnitNames) (u : ℕ) (own : Option ℕ) (further : Option (ℕ × ℕ)) → ((t : ℕ) → own ≡ Some t → is_there us u t ≡ true) → IsThere us further
    → IsThere us (option_or (option_map (in_document u) own) further)
own_there us u None further h g e t i = g e t i
own_there us u (Some x) further h g e t i = subst (λ (y : ℕ × ℕ). is_there us y.0 y.1 ≡ true) (ap (λ y. unwrap_or y (u, x)) i) (h x refl)

object_says : (p : Program) (roots : Roots) (us : List UnitNames) (ts : List UnitTargets) → Stands p us → TargetsTold p roots us ts → (f : ℕ) → TypeSays p roots us ts f → (u o : ℕ) → is_there us u o ≡ true
    → Says p roots us (target_at (suc f) us ts u o) (below (suc f) p u o)
object_says p roots us ts s told f deeper u o l =
    let x = there us u o l in
    let t = type_of_object p u o in
    let lower : List Layer = layers_of_type (λ e. below f p e 0) t in
    let own = option_and_then (id_of p roots u o) (target_in (object_at p u o).members) in
    let base : base_in us u o ≡ t = base_is p us s u o x.0 x.1 in
    let more : Says p roots us (target_below (λ e. target_at f us ts e 0) t) lower = deeper t (rooted_type p us s u o x.0 x.1) in
    record {
      same =
          ap (λ y. option_or (option_map (in_document u) y) (target_below (λ e. target_at f us ts e 0) (base_in us u o))) (told u o l).0 ∙
          ap (λ y. option_or (option_map (in_document u) own) (target_below (λ e. target_at f us ts e 0) y)) base ∙
          ap (option_or (option_map (in_document u) own)) more.same ∙
          sym (of_two p roots lower (of_object u o ∷ []));
      there =
          own_there us u (named_at ts u o) (target_below (λ e. target_at f us ts e 0) (base_in us u o)) (told u o l).1
          (subst (λ y. IsThere us (target_below (λ e. target_at f us ts e 0) y)) (sym base) more.there);
    }

type_says : (p : Program) (roots : Roots) (us : List UnitNames) (ts : List UnitTargets) → Stands p us → TargetsTold p roots us ts → (f : ℕ) → TypeSays p roots us ts f
type_says p roots us ts s told f (Builtin t) r = record { same = sym (of_types p roots (lineage t)); there = λ e k i. none_some (e, k) i }
type_says p roots us ts s told zero (OfDocument e) r = record { same = refl; there = λ u k i. none_some (u, k) i }
type_says p roots us ts s told (suc f) (OfDocument e) r = object_says p roots us ts s told f (type_says p roots us ts s told f) e.0 0 (r e refl)

pub target_as_meant : (p : Program) (roots : Roots) (us : List UnitNames) (ts : List UnitTargets) → Stands p us → TargetsTold p roots us ts → (d o : ℕ) → is_there us d o ≡ true
    → (target_at (length us + 1) us ts d o ≡ option_map place_of (target_of p roots d o)) × IsThere us (target_at (length us + 1) us ts d o)
target_as_meant p roots us ts s told d o l =
    let says : Says p roots us (target_at (suc (length us)) us ts d o) (below (suc (length us)) p d o) = object_says p roots us ts s told (length us) (type_says p roots us ts s told (length us)) d o l in (
      ap (λ f. target_at f us ts d o) (add-one (length us)) ∙ says.same ∙ ap (λ f. last_bare p roots (below (suc f) p d o)) s.long ∙ sym (layers_bare p roots d o (below (suc (length p)) p d o)),
      subst (λ f. IsThere us (target_at f us ts d o)) (sym (add-one (length us))) says.there,
    )
