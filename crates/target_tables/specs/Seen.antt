-- The objects that are named by what is given first for `target`, and when they are those of a program.
use Rattle.std.specs.Prelude.{◌≡◌, ◌≤◌, ℕ, suc, true, List, [], ◌∷◌, length, map, slice_get, Option, Some, None}
use Rattle.std.specs.Option.{unwrap_or}
use Rattle.qml_syntax.specs.Tree.{Units}
use Rattle.qml_syntax.specs.Nodes.{Table}
use Rattle.qml_syntax.specs.Places.{part_at}
use Rattle.program_names.specs.Written.{OwnedMember}
use Rattle.program_names.specs.Loaded.{Program, unit_at}
use Rattle.program_names.specs.Components.{Roots, owner, root_of, id_in}
use Rattle.program_tables.specs.declared.names.UnitNames.{UnitNames}
use Rattle.program_tables.specs.RowsSay.{UnitSays}
use Rattle.program_tables.specs.Stands.{is_there}
use Rattle.alias_tables.specs.Roots.{root_at}
use Rattle.alias_tables.specs.Ids.{id_found}
use Rattle.path_ends.specs.declared.aliases.UnitIds.{UnitIds}
use Rattle.alias_faults.specs.Targets.{owner_at, seen_by}
use Rattle.target_tables.specs.declared.firsts.GivenValue.{GivenValue}
use Rattle.change_targets.specs.declared.walking.UnitTargets.{UnitTargets}
use Rattle.target_tables.specs.Names.{name_in}
use Rattle.target_tables.specs.Firsts.{none_given, firsts_added, first_at}

abbrev pub target_by : List UnitNames → UnitIds → List (Option ℕ) → ℕ → Table → ℕ → Option GivenValue → Option ℕ
target_by us ids owners d t o None = None
target_by us ids owners d t o (Some x) = seen_by us ids owners d o (name_in (part_at t x.node))

-- those of the objects from number o on
abbrev pub targets_from : List UnitNames → UnitIds → List (Option ℕ) → ℕ → Table → ℕ → List (Option GivenValue) → List (Option ℕ)
targets_from us ids owners d t o [] = []
targets_from us ids owners d t o (x ∷ rest) =
    target_by us ids owners d t o x ∷ targets_from us ids owners d t (suc o) rest

-- ---- of a program

-- an object has a member
abbrev pub HasRow : Program → ℕ → ℕ → Type 0
HasRow p d o = (k : ℕ) × (w : OwnedMember) × (slice_get (unit_at p d).rows k ≡ Some w) × (w.object ≡ o)

-- what the tables say of an object that has members: the root of its component, in what that is written, and the ids of the component
pub record SaysObject (p : Program) (roots : Roots) (us : List UnitNames) (ids : UnitIds) (owners : List (Option ℕ)) (d o : ℕ) : Type 0 where
  pub there : is_there us d o ≡ true
  pub long : length owners ≡ length (unit_at p d).objects
  pub root : root_at ids.roots.items o ≡ root_of p roots d o
  pub root_there : is_there us d (root_of p roots d o) ≡ true
  pub around : owner_at owners (root_of p roots d o) ≡ owner p d (root_of p roots d o)
  pub around_there : (w : ℕ) → owner p d (root_of p roots d o) ≡ Some w → HasRow p d w
  pub found : (word : Units) → id_found ids.ids.items (root_at ids.roots.items o) word ≡ id_in p roots d (root_of p roots d o) word
  pub found_there : (word : Units) (t : ℕ) → id_found ids.ids.items (root_at ids.roots.items o) word ≡ Some t → is_there us d t ≡ true

pub record SaysObjects (p : Program) (roots : Roots) (us : List UnitNames) (ids : UnitIds) (owners : List (Option ℕ)) (d : ℕ) : Type 0 where
  pub covers : length (unit_at p d).objects ≤ length owners
  pub each : (o : ℕ) → HasRow p d o → SaysObject p roots us ids owners d o

-- the targets of a document were made from the rows of which its names are
pub record SaysTargets (p : Program) (roots : Roots) (us : List UnitNames) (ts : List UnitTargets) (d : ℕ) (unit : UnitNames) : Type 0 where
  pub says : UnitSays p d unit
  pub ids : UnitIds
  pub owners : List (Option ℕ)
  pub objects : SaysObjects p roots us ids owners d
  pub own : UnitTargets
  pub kept : slice_get ts d ≡ Some own
  pub made : (o : ℕ) → unwrap_or (slice_get own.objects.items o) None ≡
      target_by us ids owners d says.tree o (first_at (firsts_added [] says.rows (map none_given owners)) o)
