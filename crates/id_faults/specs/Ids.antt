-- The ids of the rows of a document, each for its component, and those that are used twice.
use Rattle.std.specs.Prelude.{ℕ, Bool, true, false, List, [], ◌∷◌}
use Rattle.qml_base.specs.declared.load_cause.LoadCause.TheVariants as cause
use Rattle.load_faults.specs.Faults.{Faults}
use Rattle.load_passes.specs.declared.repeated.NameRow.{NameRow}
use Rattle.load_passes.specs.Rows.{repeated}
use Rattle.document_members.specs.declared.member.Member.{Member}
use Rattle.document_members.specs.declared.member.Member.TheVariants as m
use Rattle.program_tables.specs.declared.building.UnitRow.{UnitRow}
use Rattle.alias_tables.specs.Roots.{root_at}
use Rattle.name_faults.specs.Names.{by_rows}

-- the id that a member of a component gives, if it stands in no group
abbrev pub id_in : ℕ → Bool → Member → List NameRow
id_in root true x = []
id_in root false (m.Id word name at) = record { name = name; owner = root; at = at; taken = false } ∷ []
id_in root false _ = []

abbrev pub id_of : List ℕ → Bool → UnitRow → List NameRow
id_of roots inside r = id_in (root_at roots r.row.object) inside r.member

abbrev pub faults_of_rows : List ℕ → List UnitRow → List Bool → Faults
faults_of_rows roots rows inside = repeated cause.DuplicateId [] (by_rows (id_of roots) rows inside)
