-- When what is kept of targets is that of a program.
use Rattle.std.specs.Prelude.{◌≡◌, ℕ, true, List, Option, Some}
use Rattle.std.specs.Option.{option_and_then}
use Rattle.program_names.specs.Loaded.{Program, object_at}
use Rattle.program_names.specs.Components.{Roots}
use Rattle.program_names.specs.PathMeanings.{SeenObject}
use Rattle.program_names.specs.ComponentRoots.{target_in, id_of}
use Rattle.program_tables.specs.declared.names.UnitNames.{UnitNames}
use Rattle.program_tables.specs.Stands.{is_there}
use Rattle.change_targets.specs.declared.walking.UnitTargets.{UnitTargets}
use Rattle.change_targets.specs.Targets.{named_at}

-- of each object that is there, the object that its own `target` names; that is there too
abbrev pub TargetsTold : Program → Roots → List UnitNames → List UnitTargets → Type 0
TargetsTold p roots us ts = (d o : ℕ) → is_there us d o ≡ true →
    (named_at ts d o ≡ option_and_then (id_of p roots d o) (target_in (object_at p d o).members)) ×
    ((t : ℕ) → named_at ts d o ≡ Some t → is_there us d t ≡ true)

-- an object as it is seen, without the way to it
abbrev pub place_of : SeenObject → ℕ × ℕ
place_of s = (s.document, s.object)

-- a target is there
abbrev pub IsThere : List UnitNames → Option (ℕ × ℕ) → Type 0
IsThere us target = (e t : ℕ) → target ≡ Some (e, t) → is_there us e t ≡ true
