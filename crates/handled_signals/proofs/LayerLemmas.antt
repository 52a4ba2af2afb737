-- The walk down the layers of an object.
use Rattle.std.proofs.Common.{◌≡◌, ◌∙◌, ap, sym, subst, refl, ℕ, zero, suc, ◌-◌, ◌<◌, ◌≤◌, arith, List, [], ◌∷◌, ◌++◌, Some, None}
use Rattle.std.proofs.lemmas.List.{append-nil, append_assoc}
use Rattle.std.specs.declared.alloc.Global.{Global}
use Rattle.std.specs.declared.vec.Vec.{Vec}
use Rattle.qml_base.specs.declared.numbers.UnitNo.{UnitNo}
use Rattle.qml_types.specs.declared.kind.TypeNo.{TypeNo}
use Rattle.qml_types.specs.declared.kind.TypeRef.{TypeRef}
use Rattle.qml_types.specs.declared.kind.TypeRef.TheVariants.{Builtin, Document as OfDocument}
use Rattle.program_tables.specs.declared.names.UnitNames.{UnitNames}
use Rattle.program_tables.specs.Types.{base_in}
use Rattle.handled_signals.specs.Layers.{ObjectLayers, layers_below, with_top, layers_at, AreLayers}

-- what was passed, with what is below
pub record Walks (all : ObjectLayers) (done : List (ℕ × ℕ)) (rest : ObjectLayers) : Type 0 where
  pub objects : done ++ rest.objects ≡ all.objects
  pub base : rest.base ≡ all.base

one_less : (f : ℕ) → suc f - 1 ≡ f
one_less f = omega arith

passes : (all rest : ObjectLayers) (x : ℕ × ℕ) (done after : List (ℕ × ℕ)) → after ≡ done ++ x ∷ [] → Walks all done (with_top x rest) → Walks all after rest
passes all rest x done after e w = record {
  objects = ap (λ z. z ++ rest.objects) e ∙ append_assoc done (x ∷ []) rest.objects ∙ w.objects;
  base = w.base;
}

pub walk_begins : (all : ObjectLayers) → Walks all [] all
walk_begins all = record { objects = refl; base = refl }

pub goes_down : (k : ℕ) (us : List UnitNames) (d o : ℕ) (done after : List (ℕ × ℕ)) (base : TypeRef) (e : UnitNo) (all : ObjectLayers) → 0 < k → after ≡ done ++ (d, o) ∷ [] →
    base ≡ base_in us d o → base ≡ OfDocument e → Walks all done (layers_at k us d o) → Walks all after (layers_at (k - 1) us e.0 0)
goes_down zero us d o done after base e all l a b h w = absurd (omega (arith, l))
goes_down (suc f) us d o done after base e all l a b h w =
    subst (λ j. Walks all after (layers_at j us e.0 0)) (sym (one_less f))
    (passes all (layers_at f us e.0 0) (d, o) done after a
    (subst (λ t. Walks all done (with_top (d, o) (layers_below (λ e. layers_at f us e 0) t))) (sym b ∙ h) w))

pub ends_built_in : (k : ℕ) (us : List UnitNames) (d o : ℕ) (done : List (ℕ × ℕ)) (objects : Vec (ℕ × ℕ) Global) (base : TypeRef) (t : TypeNo) (all : ObjectLayers) → 0 < k →
    objects.items ≡ done ++ (d, o) ∷ [] → base ≡ base_in us d o → base ≡ Builtin t → Walks all done (layers_at k us d o) →
    AreLayers (record { objects = objects; base = Some t }) all
ends_built_in zero us d o done objects base t all l a b h w = absurd (omega (arith, l))
ends_built_in (suc f) us d o done objects base t all l a b h w =
    let last : Walks all objects.items (record { objects = []; base = Some t }) =
    passes all (record { objects = []; base = Some t }) (d, o) done objects.items a
    (subst (λ t. Walks all done (with_top (d, o) (layers_below (λ e. layers_at f us e 0) t))) (sym b ∙ h) w) in
    record { objects = sym (append-nil objects.items) ∙ last.objects; base = last.base }

pub ends_unsettled : (k : ℕ) (us : List UnitNames) (d o : ℕ) (objects : Vec (ℕ × ℕ) Global) (all : ObjectLayers) → k ≤ 0 → Walks all objects.items (layers_at k us d o) →
    AreLayers (record { objects = objects; base = None }) all
ends_unsettled zero us d o objects all l w = record { objects = sym (append-nil objects.items) ∙ w.objects; base = w.base }
ends_unsettled (suc k) us d o objects all l w = absurd (omega (arith, l))
