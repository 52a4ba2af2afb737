-- One step outwards.
use Rattle.std.proofs.Common.{◌≡◌, ◌∙◌, ap, sym, ℕ, zero, suc, ◌+◌, ◌-◌, ◌<◌, Bool, List, arith}
use Rattle.std.specs.declared.option.Option.{Option}
use Rattle.std.specs.declared.option.Option.TheVariants.{None, Some}
use Rattle.qml_base.specs.declared.numbers.ObjNo.{ObjNo}
use Rattle.qml_base.specs.declared.names.Found.{Found}
use Rattle.qml_scope.specs.declared.shape.Shape.{Shape}
use Rattle.qml_scope.specs.Shapes.{first_of, or_else, found_here, id_here, around, outwards, ids_outwards}

module _ (shapes : List Shape) (makes : ObjNo → Bool) (s : Shape) (scope : Option Found) (name : List ℕ) (next : Option Shape) where
  one_more : (m : ℕ) → suc m + 1 ≡ suc (suc m)
  one_more m = omega arith

  one_less : (m : ℕ) → suc m ≡ suc m - 1 + 1
  one_less m = omega arith

  outwards_suc : (m : ℕ) → None ≡ found_here shapes makes s scope name → next ≡ around shapes s.unit s.enclosing → outwards (suc m + 1) shapes makes (Some s) scope name ≡ outwards (suc m - 1 + 1) shapes makes next None name
  outwards_suc m none is =
      ap (λ k. outwards k shapes makes (Some s) scope name) (one_more m)
      ∙ ap (λ (f : Option Found). first_of f (outwards (suc m) shapes makes (around shapes s.unit s.enclosing) None name)) (sym none)
      ∙ ap (λ t. outwards (suc m) shapes makes t None name) (sym is)
      ∙ ap (λ k. outwards k shapes makes next None name) (one_less m)

  ids_suc : (m : ℕ) → None ≡ id_here shapes makes s scope name → next ≡ around shapes s.unit s.enclosing → ids_outwards (suc m + 1) shapes makes (Some s) scope name ≡ ids_outwards (suc m - 1 + 1) shapes makes next None name
  ids_suc m none is =
      ap (λ k. ids_outwards k shapes makes (Some s) scope name) (one_more m)
      ∙ ap (λ (f : Option Bool). or_else f (ids_outwards (suc m) shapes makes (around shapes s.unit s.enclosing) None name)) (sym none)
      ∙ ap (λ t. ids_outwards (suc m) shapes makes t None name) (sym is)
      ∙ ap (λ k. ids_outwards k shapes makes next None name) (one_less m)

pub next_outwards : (n : ℕ) (shapes : List Shape) (makes : ObjNo → Bool) (s : Shape) (scope : Option Found) (name : List ℕ) (next : Option Shape) → 0 < n → None ≡ found_here shapes makes s scope name → next ≡ around shapes s.unit s.enclosing → outwards (n + 1) shapes makes (Some s) scope name ≡ outwards (n - 1 + 1) shapes makes next None name
next_outwards zero shapes makes s scope name next some none is = absurd (omega arith)
next_outwards (suc m) shapes makes s scope name next some none is = outwards_suc shapes makes s scope name next m none is

pub next_ids : (n : ℕ) (shapes : List Shape) (makes : ObjNo → Bool) (s : Shape) (scope : Option Found) (name : List ℕ) (next : Option Shape) → 0 < n → None ≡ id_here shapes makes s scope name → next ≡ around shapes s.unit s.enclosing → ids_outwards (n + 1) shapes makes (Some s) scope name ≡ ids_outwards (n - 1 + 1) shapes makes next None name
next_ids zero shapes makes s scope name next some none is = absurd (omega arith)
next_ids (suc m) shapes makes s scope name next some none is = ids_suc shapes makes s scope name next m none is
