-- The walk through the layers of an object.
use Rattle.std.proofs.Common.{◌≡◌, ◌∙◌, ap, sym, refl, ℕ, zero, suc, ◌+◌, ◌-◌, ◌<◌, ◌≤◌, arith, List, Option, Some, None}
use Rattle.std.specs.Option.{option_map, option_or}
use Rattle.qml_base.specs.declared.numbers.UnitNo.{UnitNo}
use Rattle.qml_types.specs.declared.kind.TypeNo.{TypeNo}
use Rattle.qml_types.specs.declared.kind.TypeRef.{TypeRef}
use Rattle.qml_types.specs.declared.kind.TypeRef.TheVariants.{Builtin, Document as OfDocument}
use Rattle.program_tables.specs.declared.names.UnitNames.{UnitNames}
use Rattle.program_tables.specs.Types.{base_in}
use Rattle.change_targets.specs.declared.walking.UnitTargets.{UnitTargets}
use Rattle.change_targets.specs.Targets.{named_at, in_document, target_below, target_at}

one_less : (f : ℕ) → suc f - 1 ≡ f
one_less f = omega arith

-- what is left where the object itself names none
below : (f : ℕ) (us : List UnitNames) (ts : List UnitTargets) (d o : ℕ) (base : TypeRef) (x : Option ℕ) → x ≡ named_at ts d o → x ≡ None → base ≡ base_in us d o
    → target_at (suc f) us ts d o ≡ target_below (λ e. target_at f us ts e 0) base
below f us ts d o base x n h t =
    ap (λ y. option_or (option_map (in_document d) y) (target_below (λ e. target_at f us ts e 0) (base_in us d o))) (sym n ∙ h) ∙ ap (target_below (λ e. target_at f us ts e 0)) (sym t)

pub goes_to_base : (k : ℕ) (us : List UnitNames) (ts : List UnitTargets) (d o : ℕ) (base : TypeRef) (e : UnitNo) (x : Option ℕ) (all : Option (ℕ × ℕ)) → 0 < k → x ≡ named_at ts d o → x ≡ None
    → base ≡ base_in us d o → base ≡ OfDocument e → target_at k us ts d o ≡ all → target_at (k - 1) us ts e.0 0 ≡ all
goes_to_base zero us ts d o base e x all l n h t u i = absurd (omega arith)
goes_to_base (suc f) us ts d o base e x all l n h t u i =
    ap (λ j. target_at j us ts e.0 0) (one_less f) ∙ sym (ap (target_below (λ e. target_at f us ts e 0)) u) ∙ sym (below f us ts d o base x n h t) ∙ i

pub names_it : (k : ℕ) (us : List UnitNames) (ts : List UnitTargets) (d o y : ℕ) (x : Option ℕ) (all : Option (ℕ × ℕ)) → 0 < k → x ≡ named_at ts d o → x ≡ Some y
    → target_at k us ts d o ≡ all → Some (d, y) ≡ all
names_it zero us ts d o y x all l n h i = absurd (omega arith)
names_it (suc f) us ts d o y x all l n h i = ap (λ z. option_or (option_map (in_document d) z) (target_below (λ e. target_at f us ts e 0) (base_in us d o))) (sym h ∙ n) ∙ i

pub ends_built_in : (k : ℕ) (us : List UnitNames) (ts : List UnitTargets) (d o : ℕ) (base : TypeRef) (t : TypeNo) (x : Option ℕ) (all : Option (ℕ × ℕ)) → 0 < k → x ≡ named_at ts d o → x ≡ None
    → base ≡ base_in us d o → base ≡ Builtin t → target_at k us ts d o ≡ all → Path (Option (ℕ × ℕ)) None all
ends_built_in zero us ts d o base t x all l n h s u i = absurd (omega arith)
ends_built_in (suc f) us ts d o base t x all l n h s u i = sym (ap (target_below (λ e. target_at f us ts e 0)) u) ∙ sym (below f us ts d o base x n h s) ∙ i

pub ends_unsettled : (k : ℕ) (us : List UnitNames) (ts : List UnitTargets) (d o : ℕ) (all : Option (ℕ × ℕ)) → k ≤ 0 → target_at k us ts d o ≡ all → Path (Option (ℕ × ℕ)) None all
ends_unsettled zero us ts d o all l i = i
ends_unsettled (suc k) us ts d o all l i = absurd (omega arith)
