-- The layers of an object, by the tables of a program.
use Rattle.std.specs.Prelude.{◌≡◌, ℕ, zero, suc, List, [], ◌∷◌, Option, Some, None}
use Rattle.qml_types.specs.declared.kind.TypeNo.{TypeNo}
use Rattle.qml_types.specs.declared.kind.TypeRef.{TypeRef}
use Rattle.qml_types.specs.declared.kind.TypeRef.TheVariants.{Builtin, Document as OfDocument}
use Rattle.program_tables.specs.declared.names.UnitNames.{UnitNames}
use Rattle.program_tables.specs.Types.{base_in}
use Rattle.handled_signals.specs.declared.layers.Layers.{Layers}

-- objects by document and number, from the object itself down, and the built-in type below
pub record ObjectLayers : Type 0 where
  pub objects : List (ℕ × ℕ)
  pub base : Option TypeNo

abbrev pub none_below : ObjectLayers
none_below = record { objects = []; base = None }

abbrev pub layers_below : (ℕ → ObjectLayers) → TypeRef → ObjectLayers
layers_below deeper (Builtin t) = record { objects = []; base = Some t }
layers_below deeper (OfDocument e) = deeper e.0

abbrev pub with_top : ℕ × ℕ → ObjectLayers → ObjectLayers
with_top x ls = record { objects = x ∷ ls.objects; base = ls.base }

-- of at most so many documents
abbrev pub layers_at : ℕ → List UnitNames → ℕ → ℕ → ObjectLayers
layers_at zero us d o = none_below
layers_at (suc f) us d o = with_top (d, o) (layers_below (λ e. layers_at f us e 0) (base_in us d o))

pub record AreLayers (made : Layers) (all : ObjectLayers) : Type 0 where
  pub objects : made.objects.items ≡ all.objects
  pub base : made.base ≡ all.base
