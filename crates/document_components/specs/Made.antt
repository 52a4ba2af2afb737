-- What is made of the rows of a document.
use Rattle.std.specs.Prelude.{◌≡◌, ℕ, Bool, List, [], map, slice_get, Option, Some, None}
use Rattle.std.specs.Option.{option_map}
use Rattle.std.specs.declared.alloc.Global.{Global}
use Rattle.std.specs.declared.vec.Vec.{Vec}
use Rattle.document_rows.specs.declared.rows.ObjectRow.{ObjectRow}
use Rattle.program_tables.specs.declared.building.UnitRow.{UnitRow}
use Rattle.program_tables.specs.declared.names.UnitNames.{UnitNames}
use Rattle.alias_tables.specs.Roots.{roots_after}
use Rattle.alias_tables.specs.Ids.{no_ids, ids_added}
use Rattle.path_ends.specs.declared.aliases.UnitIds.{UnitIds}
use Rattle.component_roots.specs.Deciding.{decisions, AreDecisions}

-- the object in which one is written: that of its row
abbrev pub owner_in : List UnitRow → Option ℕ → Option ℕ
owner_in rows None = None
owner_in rows (Some k) = option_map (λ (r : UnitRow). r.row.object) (slice_get rows k)

abbrev pub owner_of : List UnitRow → ObjectRow → Option ℕ
owner_of rows x = owner_in rows x.row

abbrev pub owners_of : List UnitRow → List ObjectRow → List (Option ℕ)
owners_of rows objects = map (owner_of rows) objects

-- the roots and ids, where these objects begin components
pub record IsMade (rows : List UnitRow) (objects : List ObjectRow) (begins : List Bool) (made : UnitIds) : Type 0 where
  pub roots : made.roots.items ≡ roots_after begins [] 0 (owners_of rows objects)
  pub ids : made.ids.items ≡ ids_added made.roots.items [] rows (map no_ids made.roots.items)

-- they are those by what all objects decide
pub record Decided (us : List UnitNames) (d : ℕ) (rows : List UnitRow) (objects : List ObjectRow) (made : UnitIds) : Type 0 where
  pub begins : Vec Bool Global
  pub decide : AreDecisions (Some begins) (decisions us d rows 0 objects)
  pub is_made : IsMade rows objects begins.items made

abbrev pub AreIds : List UnitNames → ℕ → List UnitRow → List ObjectRow → Option UnitIds → Type 0
AreIds us d rows objects None = Unit {0}
AreIds us d rows objects (Some made) = Decided us d rows objects made
