-- The object for which a PropertyChanges gives values, by what is kept of each document.
use Rattle.std.specs.Prelude.{ℕ, zero, suc, List, Option, Some, None, slice_get}
use Rattle.std.specs.Option.{option_map, option_or, option_and_then, unwrap_or}
use Rattle.qml_types.specs.declared.kind.TypeRef.{TypeRef}
use Rattle.qml_types.specs.declared.kind.TypeRef.TheVariants.{Builtin, Document as OfDocument}
use Rattle.program_tables.specs.declared.names.UnitNames.{UnitNames}
use Rattle.program_tables.specs.Types.{base_in}
use Rattle.change_targets.specs.declared.walking.UnitTargets.{UnitTargets}

-- the object that an object itself names as its target
abbrev pub named_at : List UnitTargets → ℕ → ℕ → Option ℕ
named_at ts d o = option_and_then (λ (u : UnitTargets). unwrap_or (slice_get u.objects.items o) None) (slice_get ts d)

abbrev pub in_document : ℕ → ℕ → ℕ × ℕ
in_document d t = (d, t)

abbrev pub target_below : (ℕ → Option (ℕ × ℕ)) → TypeRef → Option (ℕ × ℕ)
target_below deeper (Builtin t) = None
target_below deeper (OfDocument e) = deeper e.0

-- that of the highest of at most so many layers of documents, with its document
abbrev pub target_at : ℕ → List UnitNames → List UnitTargets → ℕ → ℕ → Option (ℕ × ℕ)
target_at zero us ts d o = None
target_at (suc f) us ts d o =
    option_or (option_map (in_document d) (named_at ts d o)) (target_below (λ e. target_at f us ts e 0) (base_in us d o))
