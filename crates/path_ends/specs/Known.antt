-- When what is known of the ends of aliases is right, and when tables are those of a program.
use Rattle.std.specs.Prelude.{◌≡◌, ◌<◌, ◌≤◌, ℕ, suc, Bool, true, false, List, [], ◌∷◌, length, map, slice_get, Option, Some, None}
use Rattle.std.specs.List.{sum_by}
use Rattle.name_table.specs.Named.{under}
use Rattle.qml_syntax.specs.Tree.{Units}
use Rattle.qml_syntax.specs.Nodes.{Table}
use Rattle.program_names.specs.Written.{OwnedMember}
use Rattle.program_names.specs.Loaded.{Program, unit_at}
use Rattle.program_names.specs.Components.{Roots, root_of, id_in}
use Rattle.program_names.specs.PathMeanings.{Way, PathEnd, at_object, in_circle, aliases_of_unit}
use Rattle.program_tables.specs.declared.names.Declared.TheVariants as d
use Rattle.program_tables.specs.declared.names.ObjectNames.{ObjectNames}
use Rattle.program_tables.specs.declared.names.UnitNames.{UnitNames}
use Rattle.program_tables.specs.Walk.{object_in}
use Rattle.program_tables.specs.Stands.{is_there, member_at, target_in, Stands}
use Rattle.program_tables.specs.declared.building.UnitRow.{UnitRow}
use Rattle.program_tables.specs.RowsSay.{RowsSay, UnitSays}
use Rattle.alias_tables.specs.Roots.{root_at}
use Rattle.alias_tables.specs.Ids.{KnowsRoots, no_ids, ids_added}
use Rattle.path_ends.specs.declared.aliases.Alias.{Alias}
use Rattle.path_ends.specs.declared.aliases.UnitAliases.{UnitAliases}
use Rattle.path_ends.specs.declared.aliases.UnitIds.{UnitIds}
use Rattle.path_ends.specs.declared.aliases.UnitEnds.{UnitEnds}
use Rattle.path_ends.specs.Said.{alias_in, target_of, count_of, known_end, rank_in, id_seen, said, aliases_told}
use Rattle.path_ends.specs.Ends.{target_end, falls_from}

-- An end that a document sees: an object without another around it is one of the document.
abbrev StandsIn : ℕ → Option Way → ℕ → Type 0
StandsIn d None e = e ≡ d
StandsIn d (Some w) e = Unit {0}

abbrev pub Fits : ℕ → PathEnd → Type 0
Fits d (at_object s) = StandsIn d s.holder s.document
Fits d _ = Unit {0}

-- an object at which a path ends is there
abbrev pub IsThere : List UnitNames → PathEnd → Type 0
IsThere us (at_object s) = is_there us s.document s.object ≡ true
IsThere us _ = Unit {0}

abbrev pub is_circle : PathEnd → Bool
is_circle in_circle = true
is_circle _ = false

-- What is known of an alias: its end is that of its target, by what is known of the others; where it doesn't lead into a
-- circle, those along its target have lower ranks.
pub record KnowsAlias (us : List UnitNames) (ids : List UnitIds) (known : List UnitEnds) (limit d row : ℕ) (a : Alias) : Type 0 where
  pub same : known_end known d row ≡ target_end us ids known d a.object (target_of a)
  pub fits : Fits d (known_end known d row)
  pub there : IsThere us (known_end known d row)
  pub low : rank_in known d row < limit
  pub short : length a.rest.items ≤ 3
  pub falls : is_circle (known_end known d row) ≡ false →
      falls_from us known (rank_in known d row) d (id_seen ids d a.object a.first) a.rest.items ≡ true

-- row after row, and document after document
abbrev pub KnowsRow : List UnitNames → List UnitIds → List UnitEnds → ℕ → ℕ → ℕ → Option Alias → Type 0
KnowsRow us ids known limit d row None = Unit {0}
KnowsRow us ids known limit d row (Some a) = KnowsAlias us ids known limit d row a

abbrev pub KnowsRows : List UnitNames → List UnitIds → List UnitEnds → ℕ → ℕ → ℕ → List (Option Alias) → Type 0
KnowsRows us ids known limit d row [] = Unit {0}
KnowsRows us ids known limit d row (a ∷ rest) =
    KnowsRow us ids known limit d row a × KnowsRows us ids known limit d (suc row) rest

abbrev pub KnowsUnits : List UnitNames → List UnitIds → List UnitEnds → ℕ → ℕ → List UnitAliases → Type 0
KnowsUnits us ids known limit d [] = Unit {0}
KnowsUnits us ids known limit d (u ∷ rest) =
    KnowsRows us ids known limit d 0 u.rows.items × KnowsUnits us ids known limit (suc d) rest

-- each alias is known
abbrev pub KnowsAll : List UnitNames → List UnitIds → List UnitAliases → List UnitEnds → Type 0
KnowsAll us ids aliases known = (d row : ℕ) (a : Alias) → alias_in aliases d row ≡ Some a →
    KnowsAlias us ids known (count_of aliases) d row a

-- ---- of a program

-- the alias that a row declares for an object
pub record SaysAlias (p : Program) (aliases : List UnitAliases) (u o row : ℕ) : Type 0 where
  pub alias : Alias
  pub kept : alias_in aliases u row ≡ Some alias
  pub object : alias.object ≡ o
  pub target : target_of alias ≡ target_in (member_at p u row)

-- each alias that the names tell is kept
abbrev pub AliasesTold : Program → List UnitNames → List UnitAliases → Type 0
AliasesTold p us aliases = (u o : ℕ) (x : ObjectNames) (name : Units) (row : ℕ) → object_in us u o ≡ Some x →
    under x.names name ≡ Some (d.Alias row) → SaysAlias p aliases u o row

-- an id of the component of an object that is there is the program's, and its object is there
abbrev pub IdsTold : Program → Roots → List UnitNames → List UnitIds → Type 0
IdsTold p roots us ids = (u o : ℕ) (name : Units) → is_there us u o ≡ true →
    (id_seen ids u o name ≡ id_in p roots u (root_of p roots u o) name) ×
    ((t : ℕ) → id_seen ids u o name ≡ Some t → is_there us u t ≡ true)

-- the tables say the names, the aliases and the ids of a program
pub record Tells (p : Program) (roots : Roots) (us : List UnitNames) (ids : List UnitIds) (aliases : List UnitAliases) : Type 0 where
  pub stands : Stands p us
  pub told_aliases : AliasesTold p us aliases
  pub few : count_of aliases ≤ sum_by aliases_of_unit p
  pub told_ids : IdsTold p roots us ids

-- ---- of one document

-- the names of a document and its aliases were made from the same rows
pub record SaysUnit (p : Program) (aliases : List UnitAliases) (u : ℕ) (unit : UnitNames) : Type 0 where
  pub says : UnitSays p u unit
  pub own : UnitAliases
  pub kept : slice_get aliases u ≡ Some own
  pub told : map said own.rows.items ≡ aliases_told [] says.rows

-- the ids of a document were made from rows that say its members and from the roots of its objects
pub record SaysIds (p : Program) (roots : Roots) (us : List UnitNames) (ids : List UnitIds) (u : ℕ) (unit : UnitNames) : Type 0 where
  pub tree : Table
  pub rows : List UnitRow
  pub says : RowsSay p u tree [] rows (unit_at p u).rows
  pub own : UnitIds
  pub kept : slice_get ids u ≡ Some own
  pub made : own.ids.items ≡ ids_added own.roots.items [] rows (map no_ids own.roots.items)
  pub knows : KnowsRoots p roots u own.roots.items
  pub long : length own.roots.items ≡ length unit.objects.items
  pub told_roots : (o : ℕ) → o < length own.roots.items →
      (root_at own.roots.items o ≡ root_of p roots u o) × (root_at own.roots.items o < length own.roots.items)
  pub there : (k : ℕ) (w : OwnedMember) → slice_get (unit_at p u).rows k ≡ Some w → is_there us u w.object ≡ true
