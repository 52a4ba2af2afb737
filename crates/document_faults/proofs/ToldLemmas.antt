-- What is told of a document is what the definitions of its faults tell.
use Rattle.std.proofs.Common.{◌≡◌, ◌∙◌, ap, sym, refl, subst, ℕ, zero, suc, ◌<◌, true, [], List, ◌∷◌, map, flat_map, Option, Some, None, is_some}
use Rattle.std.specs.Prelude.{slice_get}
use Rattle.std.specs.Option.{unwrap_or}
use Rattle.program_names.specs.declared.fault.Fault.{Fault}
use Rattle.program_names.specs.Written.{OwnedMember}
use Rattle.program_names.specs.Loaded.{Program, Unit as AUnit, unit_at, no_unit}
use Rattle.program_names.specs.ComponentRoots.{roots_of}
use Rattle.load_faults.specs.Faults.{first_from, objects_from}
use Rattle.load_faults.specs.Aliases.{bad_alias, bad_aliases}
use Rattle.load_faults.specs.Duplicates.{duplicate_ids}
use Rattle.program_tables.specs.declared.names.UnitNames.{UnitNames}
use Rattle.program_tables.specs.RowsSay.{RowsSay}
use Rattle.program_tables.specs.Stands.{is_there}
use Rattle.document_tables.specs.declared.program.ProgramTables.{ProgramTables}
use Rattle.document_tables.specs.Tables.{TellProgram, tree_in}
use Rattle.document_tables.proofs.ThereLemmas.{AllThere, rows_there}
use Rattle.path_ends.specs.declared.aliases.UnitAliases.{UnitAliases}
use Rattle.path_ends.specs.Said.{said}
use Rattle.alias_faults.specs.BadAliases.{bad_rows}
use Rattle.alias_faults.proofs.FaultLemmas.{bad_as_written}
use Rattle.written_order.proofs.MemberLemmas.{members_alike}
use Rattle.name_faults.proofs.PassLemmas.{none_in_both}
use Rattle.document_components.proofs.MadeLemmas.{none_some, in_list, there_less}
use Rattle.program_paths.specs.declared.paths.ProgramPaths.{ProgramPaths}
use Rattle.program_paths.specs.Paths.{ArePaths}
use Rattle.program_paths.proofs.PathsLemmas.{aliases_at, aliases_long, ids_long, all_tell}
use Rattle.id_faults.proofs.IdLemmas.{nothing_found}

-- ---- ids

pub no_ids_there : (p : Program) (tables : ProgramTables) (made : ProgramPaths) (d : ℕ) (kept : Option Fault) → TellProgram p tables → ArePaths tables.names.units.items tables.documents.items (Some made)
    → slice_get made.ids.items d ≡ None → kept ≡ first_from kept (duplicate_ids p (roots_of p) d)
no_ids_there p tables made d kept h are e =
    nothing_found p (roots_of p) tables d kept h (none_in_both made.ids.items tables.documents.items d (ids_long tables.names.units.items 0 tables.documents.items made.ids.items are.ids) e)

-- ---- aliases

there_at : (us : List UnitNames) (d : ℕ) (ws : List OwnedMember) → AllThere us d ws → (w : OwnedMember) (k : ℕ) → Path (Option OwnedMember) (slice_get ws k) (Some w) → is_there us d w.object ≡ true
there_at us d [] a w k e = none_some w e
there_at us d (x ∷ ws) a w zero e = ap (is_there us d) (ap (λ (v : Option OwnedMember). (unwrap_or v w).object) (sym e)) ∙ a.0
there_at us d (x ∷ ws) a w (suc k) e = there_at us d ws a.1 w k e

pub aliases_found : (p : Program) (tables : ProgramTables) (made : ProgramPaths) (d : ℕ) (unit : UnitAliases) (kept after : Option Fault) → TellProgram p tables
    → ArePaths tables.names.units.items tables.documents.items (Some made) → slice_get made.aliases.items d ≡ Some unit
    → after ≡ first_from kept (bad_rows made.ends.items d 0 unit.rows.items) → after ≡ first_from kept (bad_aliases p (roots_of p) d)
aliases_found p tables made d unit kept after h are e told =
    let us : List UnitNames = tables.names.units.items in
    let x = in_list tables.documents.items d
    (subst (λ n. d < n) (aliases_long tables.documents.items made.aliases.items are.paths.told) (there_less made.aliases.items d unit e)) in
    let t = h.tells d x.0 x.1 in
    let a = aliases_at tables.documents.items made.aliases.items are.paths.told d x.0 x.1 in
    let own : a.0 ≡ unit = ap (λ v. unwrap_or v unit) (sym a.1 ∙ e) in
    let says : RowsSay p d t.2.unit.tree [] x.0.rows.items (unit_at p d).rows = subst (λ rs. RowsSay p d t.2.unit.tree [] rs (unit_at p d).rows) t.2.made t.2.unit.says in
    told ∙
    ap (first_from kept)
    (bad_as_written p (roots_of p) us made.ids.items made.aliases.items made.ends.items (all_tell p tables made h are) are.paths.known d t.2.unit.tree unit x.0.rows.items e says
    (ap (λ (v : UnitAliases). map said v.rows.items) (sym own) ∙ a.2)
    (there_at us d (unit_at p d).rows (rows_there p d us (tree_in x.0.content.value) t.0 x.0.rows.items x.0.inside.items t.1 t.2))) ∙
    members_alike p d (bad_alias p (roots_of p) d) t.2.unit.members kept

pub no_aliases_there : (p : Program) (tables : ProgramTables) (made : ProgramPaths) (d : ℕ) (kept : Option Fault) → TellProgram p tables → ArePaths tables.names.units.items tables.documents.items (Some made)
    → slice_get made.aliases.items d ≡ None → kept ≡ first_from kept (bad_aliases p (roots_of p) d)
no_aliases_there p tables made d kept h are e =
    let nowhere = none_in_both made.aliases.items p d (aliases_long tables.documents.items made.aliases.items are.paths.told ∙ h.long) e in
    let none : (unit_at p d).objects ≡ [] = ap (λ (o : Option AUnit). (unwrap_or o no_unit).objects) nowhere in
    ap (λ ws. first_from kept (objects_from 0 ws (λ o w. flat_map (bad_alias p (roots_of p) d o) w.members))) (sym none)
