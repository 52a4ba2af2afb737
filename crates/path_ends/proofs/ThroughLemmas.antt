-- Going along a path as a document sees it, and as it is seen through an object that has the document as a type.
use Rattle.std.proofs.Common.{◌≡◌, ◌∙◌, ap, sym, refl, ℕ, Bool, true, false, List, [], ◌∷◌, ◌++◌, Option, Some, None}
use Rattle.std.specs.Prelude.{nat_eq, ◌&&◌, if◌then◌else◌}
use Rattle.std.proofs.lemmas.Bool.{eqb-true}
use Rattle.qml_syntax.specs.Tree.{Units}
use Rattle.program_names.specs.PathMeanings.{Way, SeenObject, way_to, PathEnd, at_cell, at_object, at_nothing, in_circle, holder_in}
use Rattle.program_tables.specs.declared.built_in.BuiltInName.{BuiltInName}
use Rattle.program_tables.specs.declared.built_in.BuiltInName.TheVariants as b
use Rattle.program_tables.specs.declared.names.Meaning.{Meaning}
use Rattle.program_tables.specs.declared.names.Meaning.TheVariants as m
use Rattle.program_tables.specs.declared.names.UnitNames.{UnitNames}
use Rattle.path_ends.specs.declared.aliases.UnitEnds.{UnitEnds}
use Rattle.path_ends.specs.Said.{known_end}
use Rattle.path_ends.specs.Ends.{hop_to, way_through, holder_through, seen_through, end_through, found, end_built_in, end_by, followed, walked, one_falls, falls}
use Rattle.path_ends.specs.Known.{Fits, IsThere}
use Rattle.path_ends.proofs.WayLemmas.{a_way, way_in, inside}

-- ---- ways

assoc : {A : Type 0} (a b c : List A) → (a ++ b) ++ c ≡ a ++ (b ++ c)
assoc [] b c = refl
assoc (x ∷ a) b c = ap (λ xs. x ∷ xs) (assoc a b c)

regrouped : {A : Type 0} (a b c d e : List A) → (a ++ b) ++ ((c ++ d) ++ e) ≡ (((a ++ b) ++ c) ++ d) ++ e
regrouped a b c d e = sym (assoc (a ++ b) (c ++ d) e) ∙ ap (λ xs. xs ++ e) (sym (assoc (a ++ b) c d))

-- where no other object is around, the two documents are one
abbrev Joins : ℕ → Option Way → ℕ → Type 0
Joins d None e = e ≡ d
Joins d (Some w) e = Unit {0}

way_twice : (h g : Option Way) (d e : ℕ) (w : Way) → Joins d g e → way_through h d (way_through g e w) ≡ way_through (holder_through h d g) e w
way_twice h None d e w j = ap (λ k. way_through h k w) (sym j)
way_twice None (Some g) d e w j = refl
way_twice (Some h) (Some g) d e w j = ap (a_way h.base) (regrouped h.hops (hop_to d g.base) g.hops (hop_to e w.base) w.hops)

holder_twice : (h g x : Option Way) (d e : ℕ) → Joins d g e → holder_through h d (holder_through g e x) ≡ holder_through (holder_through h d g) e x
holder_twice h g None d e j = refl
holder_twice h g (Some w) d e j = ap Some (way_twice h g d e w j)

end_twice : (h g : Option Way) (d e : ℕ) (x : PathEnd) → Joins d g e → end_through h d (end_through g e x) ≡ end_through (holder_through h d g) e x
end_twice h g d e (at_cell w place k a) j = ap (λ v. at_cell v place k a) (way_twice h g d e w j)
end_twice h g d e (at_object s) j =
    ap (λ v. at_object (record { holder = v; document = s.document; object = s.object })) (holder_twice h g s.holder d e j)
end_twice h g d e at_nothing j = refl
end_twice h g d e in_circle j = refl

abbrev seen : Option Way → ℕ → ℕ → SeenObject
seen h d o = record { holder = h; document = d; object = o }

way_seen : (h x : Option Way) (d e o : ℕ) → Joins d x e → way_to (seen (holder_through h d x) e o) ≡ way_through h d (way_to (seen x e o))
way_seen None None d e o j = refl
way_seen (Some h) None d e o j =
    ap (λ k. way_in (Some h) k o) j ∙ sym (inside h d o) ∙ ap (a_way h.base) (sym (append_nil (h.hops ++ hop_to d o)))
  where
    append_nil : {A : Type 0} (xs : List A) → xs ++ [] ≡ xs
    append_nil [] = refl
    append_nil (y ∷ xs) = ap (λ ys. y ∷ ys) (append_nil xs)
way_seen None (Some w) d e o j = refl
way_seen (Some h) (Some w) d e o j =
    sym (inside (a_way h.base ((h.hops ++ hop_to d w.base) ++ w.hops)) e o) ∙
    ap (a_way h.base) (assoc (h.hops ++ hop_to d w.base) w.hops (hop_to e o)) ∙
    ap (way_through (Some h) d) (inside w e o)

-- ---- the holder of a layer

holder_seen : (h x : Option Way) (d e o f : ℕ) → Joins d x e → holder_in (seen (holder_through h d x) e o) f ≡ holder_through h d (holder_in (seen x e o) f)
holder_seen h x d e o f j = by_test (nat_eq f e)
  where
    by_test : (b : Bool) → (if b then holder_through h d x else Some (way_to (seen (holder_through h d x) e o))) ≡ holder_through h d (if b then x else Some (way_to (seen x e o)))
    by_test true = refl
    by_test false = ap Some (way_seen h x d e o j)

layer_joins : (x : Option Way) (d e o f : ℕ) → Joins d x e → Joins d (holder_in (seen x e o) f) f
layer_joins x d e o f j = by_test (nat_eq f e) refl x j
  where
    by_test : (b : Bool) → nat_eq f e ≡ b → (x : Option Way) → Joins d x e → Joins d (if b then x else Some (way_to (seen x e o))) f
    by_test true i None j = eqb-true f e i ∙ j
    by_test true i (Some w) j = tt
    by_test false i x j = tt

fits_joins : (d : ℕ) (s : SeenObject) → Fits d (at_object s) → Joins d s.holder s.document
fits_joins d s f = by_holder s.holder f
  where
    by_holder : (x : Option Way) → Fits d (at_object (seen x s.document s.object)) → Joins d x s.document
    by_holder None f = f
    by_holder (Some w) f = tt

-- ---- one name

-- each alias that is found fits its document
abbrev pub FitsAll : List UnitEnds → Option Meaning → Type 0
FitsAll known (Some (m.Alias e o row)) = Fits e (known_end known e row)
FitsAll known _ = Unit {0}

abbrev pub AllFit : List UnitNames → List UnitEnds → Type 0
AllFit us known = (s : SeenObject) (name : Units) → FitsAll known (found us s name)

built_in_seen : (h : Option Way) (d : ℕ) (s : SeenObject) (x : BuiltInName) → Fits d (at_object s) → end_built_in (seen_through h d s) x ≡ end_through h d (end_built_in s x)
built_in_seen h d s (b.Cell place k a) f = ap (λ w. at_cell w place k a) (way_seen h s.holder d s.document s.object (fits_joins d s f))
built_in_seen h d s _ f = refl

by_found : (known : List UnitEnds) (h : Option Way) (d : ℕ) (s : SeenObject) (x : Option Meaning) → Fits d (at_object s) → end_by known (seen_through h d s) x ≡ end_through h d (end_by known s x)
by_found known h d s None f = refl
by_found known h d s (Some (m.Cell place k a)) f = ap (λ w. at_cell w place k a) (way_seen h s.holder d s.document s.object (fits_joins d s f))
by_found known h d s (Some (m.BuiltIn x)) f = built_in_seen h d s x f
by_found known h d s (Some (m.Alias e o row)) f =
    ap (λ g. end_through g e (known_end known e row)) (holder_seen h s.holder d s.document s.object e (fits_joins d s f)) ∙
    sym (end_twice h (holder_in s e) d e (known_end known e row) (layer_joins s.holder d s.document s.object e (fits_joins d s f)))
by_found known h d s (Some m.Changed) f = refl
by_found known h d s (Some (m.Signal e row)) f = refl
by_found known h d s (Some (m.Function e o row)) f = refl

pub one_name : (us : List UnitNames) (known : List UnitEnds) (h : Option Way) (d : ℕ) (x : PathEnd) (name : Units) → Fits d x → followed us known (end_through h d x) name ≡ end_through h d (followed us known x name)
one_name us known h d (at_object s) name f = by_found known h d s (found us s name) f
one_name us known h d (at_cell w place k a) name f = refl
one_name us known h d at_nothing name f = refl
one_name us known h d in_circle name f = refl

fits_through : (d e : ℕ) (g : Option Way) (x : PathEnd) → Joins d g e → Fits e x → Fits d (end_through g e x)
fits_through d e g (at_cell w place k a) j f = tt
fits_through d e g (at_object s) j f = by_holder g s.holder j f
  where
    by_holder : (g x : Option Way) → Joins d g e → Fits e (at_object (seen x s.document s.object)) → Fits d (at_object (seen (holder_through g e x) s.document s.object))
    by_holder None None j f = f ∙ j
    by_holder (Some w) None j f = tt
    by_holder g (Some v) j f = tt
fits_through d e g at_nothing j f = tt
fits_through d e g in_circle j f = tt

fits_built_in : (d : ℕ) (s : SeenObject) (x : BuiltInName) → Fits d (end_built_in s x)
fits_built_in d s (b.Cell place k a) = tt
fits_built_in d s b.Changed = tt
fits_built_in d s (b.Signal t i) = tt
fits_built_in d s b.Method = tt
fits_built_in d s b.Children = tt

fits_found : (known : List UnitEnds) (d : ℕ) (s : SeenObject) (x : Option Meaning) → FitsAll known x → Fits d (at_object s) → Fits d (end_by known s x)
fits_found known d s None a f = tt
fits_found known d s (Some (m.Cell place k c)) a f = tt
fits_found known d s (Some (m.BuiltIn x)) a f = fits_built_in d s x
fits_found known d s (Some (m.Alias e o row)) a f =
    fits_through d e (holder_in s e) (known_end known e row) (layer_joins s.holder d s.document s.object e (fits_joins d s f)) a
fits_found known d s (Some m.Changed) a f = tt
fits_found known d s (Some (m.Signal e row)) a f = tt
fits_found known d s (Some (m.Function e o row)) a f = tt

fits_on : (us : List UnitNames) (known : List UnitEnds) (d : ℕ) (x : PathEnd) (name : Units) → AllFit us known → Fits d x → Fits d (followed us known x name)
fits_on us known d (at_object s) name a f = fits_found known d s (found us s name) (a s name) f
fits_on us known d (at_cell w place k c) name a f = tt
fits_on us known d at_nothing name a f = tt
fits_on us known d in_circle name a f = tt

-- ---- a path

pub path_through : (us : List UnitNames) (known : List UnitEnds) → AllFit us known → (h : Option Way) (d : ℕ) (x : PathEnd) (path : List Units) → Fits d x
    → walked us known (end_through h d x) path ≡ end_through h d (walked us known x path)
path_through us known a h d x [] f = refl
path_through us known a h d x (name ∷ rest) f =
    ap (λ y. walked us known y rest) (one_name us known h d x name f) ∙
    path_through us known a h d (followed us known x name) rest (fits_on us known d x name a f)

-- ranks don't depend on it
lower_through : (us : List UnitNames) (known : List UnitEnds) (limit : ℕ) (h : Option Way) (d : ℕ) (x : PathEnd) (name : Units) → one_falls us known limit (end_through h d x) name ≡ one_falls us known limit x name
lower_through us known limit h d (at_object s) name = refl
lower_through us known limit h d (at_cell w place k a) name = refl
lower_through us known limit h d at_nothing name = refl
lower_through us known limit h d in_circle name = refl

pub falls_through : (us : List UnitNames) (known : List UnitEnds) → AllFit us known → (limit : ℕ) (h : Option Way) (d : ℕ) (x : PathEnd) (path : List Units) → Fits d x
    → falls us known limit (end_through h d x) path ≡ falls us known limit x path
falls_through us known a limit h d x [] f = refl
falls_through us known a limit h d x (name ∷ rest) f =
    ap (λ b. b && falls us known limit (followed us known (end_through h d x) name) rest) (lower_through us known limit h d x name) ∙
    ap (λ b. one_falls us known limit x name && b)
    (ap (λ y. falls us known limit y rest) (one_name us known h d x name f) ∙ falls_through us known a limit h d (followed us known x name) rest (fits_on us known d x name a f))

pub there_through : (us : List UnitNames) (h : Option Way) (d : ℕ) (x : PathEnd) → IsThere us x → IsThere us (end_through h d x)
there_through us h d (at_object s) t = t
there_through us h d (at_cell w place k a) t = tt
there_through us h d at_nothing t = tt
there_through us h d in_circle t = tt
