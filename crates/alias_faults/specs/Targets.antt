-- The object that a PropertyChanges names as its target: that of an id, sought in the components outwards, unless a name of their
-- roots, and of the object itself in the first, comes before.
use Rattle.std.specs.Prelude.{◌≡◌, ◌<◌, ℕ, zero, suc, ◌+◌, Bool, true, false, ◌||◌, if◌then◌else◌, List, [], ◌∷◌, ◌++◌, length, slice_get, Option, Some, None}
use Rattle.std.specs.Option.{unwrap_or, is_none}
use Rattle.std.specs.List.{flat_map}
use Rattle.qml_base.specs.declared.numbers.Place.{Place}
use Rattle.qml_base.specs.declared.load_cause.LoadCause.TheVariants as cause
use Rattle.qml_syntax.specs.Tree.{Units, name, expr}
use Rattle.qml_types.specs.declared.kind.TypeNo.TheVariants as no
use Rattle.program_names.specs.Written.{WrittenObject, WrittenValue, by_stmt}
use Rattle.program_names.specs.Loaded.{Program, unit_at, type_of_object}
use Rattle.program_names.specs.Layers.{is_type}
use Rattle.program_names.specs.Components.{Roots, owner, root_of, id_in}
use Rattle.program_names.specs.ComponentRoots.{target_in}
use Rattle.program_tables.specs.declared.built_in.BuiltInName.TheVariants as b
use Rattle.program_tables.specs.declared.names.Meaning.{Meaning}
use Rattle.program_tables.specs.declared.names.Meaning.TheVariants as m
use Rattle.program_tables.specs.declared.names.UnitNames.{UnitNames}
use Rattle.program_tables.specs.Walk.{found_at}
use Rattle.program_tables.specs.Stands.{is_there}
use Rattle.alias_tables.specs.Roots.{root_at}
use Rattle.alias_tables.specs.Ids.{id_found}
use Rattle.path_ends.specs.declared.aliases.UnitIds.{UnitIds}
use Rattle.load_faults.specs.Faults.{Faults, fault_if, place_of_object, place_of_value}
use Rattle.load_faults.specs.Aliases.{is_built_in}
use Rattle.alias_faults.specs.declared.targets.TargetRow.{TargetRow}

-- whether expressions see what a name means; they don't see the children of an Item by their name
abbrev pub is_seen : Option Meaning → Bool
is_seen None = false
is_seen (Some (m.BuiltIn b.Children)) = false
is_seen _ = true

abbrev pub sees : List UnitNames → ℕ → ℕ → Units → Bool
sees us d o n = is_seen (found_at (length us + 1) us d o n)

abbrev pub owner_at : List (Option ℕ) → ℕ → Option ℕ
owner_at owners o = unwrap_or (slice_get owners o) None

-- in the component of this root, and in at most so many around it
abbrev pub sought : ℕ → List UnitNames → UnitIds → List (Option ℕ) → ℕ → Bool → ℕ → Units → Option ℕ
sought zero us ids owners d hidden root word = None
sought (suc k) us ids owners d hidden root word = elim (id_found ids.ids.items root word) [
  | Some o ↦ Some o
  | None ↦ elim (hidden || sees us d root word) [
    | true ↦ None
    | false ↦ elim (owner_at owners root) [
      | None ↦ None
      | Some w ↦ sought k us ids owners d false (root_at ids.roots.items w) word
    ]
  ]
]

abbrev pub target_seen : List UnitNames → UnitIds → List (Option ℕ) → ℕ → ℕ → Units → Option ℕ
target_seen us ids owners d o word =
    sought (length owners + 1) us ids owners d (sees us d o word) (root_at ids.roots.items o) word

-- ---- of a program

-- what the tables say of one document: in what its objects are written, the roots of their components, and their ids
pub record SaysComponents (p : Program) (roots : Roots) (us : List UnitNames) (ids : UnitIds) (owners : List (Option ℕ)) (d : ℕ) : Type 0 where
  pub long : length owners ≡ length (unit_at p d).objects
  pub told_owners : (o : ℕ) → is_there us d o ≡ true → owner_at owners o ≡ owner p d o
  pub around : (o w : ℕ) → is_there us d o ≡ true → owner p d o ≡ Some w → is_there us d w ≡ true
  pub told_roots : (o : ℕ) → is_there us d o ≡ true →
      (root_at ids.roots.items o ≡ root_of p roots d o) × (is_there us d (root_of p roots d o) ≡ true)
  pub told_ids : (root : ℕ) → is_there us d root ≡ true → (word : Units) → id_found ids.ids.items root word ≡ id_in p roots d root word

-- ---- rows of PropertyChanges

abbrev pub seen_by : List UnitNames → UnitIds → List (Option ℕ) → ℕ → ℕ → Option Units → Option ℕ
seen_by us ids owners d o None = None
seen_by us ids owners d o (Some word) = target_seen us ids owners d o word

abbrev pub bad_target : List UnitNames → UnitIds → List (Option ℕ) → ℕ → TargetRow → Faults
bad_target us ids owners d r = fault_if (is_none (seen_by us ids owners d r.object r.name)) r.at cause.BadTarget

abbrev pub bad_targets_of : List UnitNames → UnitIds → List (Option ℕ) → ℕ → List TargetRow → Faults
bad_targets_of us ids owners d rows = flat_map (bad_target us ids owners d) rows

-- the name that a value is, where it is one alone
abbrev pub name_alone : WrittenValue → Option Units
name_alone (by_stmt (expr (name n at) c)) = Some n
name_alone _ = None

abbrev target_row : ℕ → Place → Option Units → TargetRow
target_row o at n = record { object = o; at = at; name = n }

-- a row for what `target` is given, or for an object of the built-in type without it
abbrev pub row_given : Program → ℕ → ℕ → Option WrittenValue → List TargetRow
row_given p d o (Some v) = target_row o (place_of_value p d v) (name_alone v) ∷ []
row_given p d o None = if is_built_in (type_of_object p d o) then target_row o (place_of_object p d o) None ∷ [] else []

abbrev pub row_of_object : Program → ℕ → ℕ → WrittenObject → List TargetRow
row_of_object p d o w = if is_type p d o no.PropertyChanges then row_given p d o (target_in w.members) else []

abbrev pub rows_from : Program → ℕ → ℕ → List WrittenObject → List TargetRow
rows_from p d o [] = []
rows_from p d o (w ∷ rest) = row_of_object p d o w ++ rows_from p d (suc o) rest

-- those of a document, object after object
abbrev pub target_rows : Program → ℕ → List TargetRow
target_rows p d = rows_from p d 0 (unit_at p d).objects

-- each object of a document is in the tables
abbrev pub ObjectsThere : Program → List UnitNames → ℕ → Type 0
ObjectsThere p us d = (o : ℕ) → o < length (unit_at p d).objects → is_there us d o ≡ true
