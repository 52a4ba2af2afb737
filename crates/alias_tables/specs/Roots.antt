-- The roots of the components in which objects stand, object after object.
use Rattle.std.specs.Prelude.{ℕ, suc, Bool, false, if◌then◌else◌, List, [], ◌∷◌, ◌++◌, slice_get, Option, Some, None}
use Rattle.std.specs.Option.{unwrap_or}
use Rattle.program_names.specs.Components.{IsRoot, Roots, is_root_at}

abbrev pub begins_at : List Bool → ℕ → Bool
begins_at begins o = unwrap_or (slice_get begins o) false

abbrev pub root_at : List ℕ → ℕ → ℕ
root_at roots o = unwrap_or (slice_get roots o) 0

-- that of the object in which one is written
abbrev pub root_around : List ℕ → ℕ → Option ℕ → ℕ
root_around roots o None = o
root_around roots o (Some w) = root_at roots w

abbrev pub root_by : List Bool → List ℕ → ℕ → Option ℕ → ℕ
root_by begins roots o owner = if begins_at begins o then o else root_around roots o owner

-- behind the roots of the objects before number o, those of the objects from it on
abbrev pub roots_after : List Bool → List ℕ → ℕ → List (Option ℕ) → List ℕ
roots_after begins roots o [] = roots
roots_after begins roots o (w ∷ ws) = roots_after begins (roots ++ root_by begins roots o w ∷ []) (suc o) ws

-- whether an object is known to begin a component
abbrev pub is_known_root : IsRoot → Bool
is_known_root (Some b) = b
is_known_root None = false

abbrev pub begins : Roots → ℕ → ℕ → Bool
begins roots d o = is_known_root (is_root_at roots d o)
