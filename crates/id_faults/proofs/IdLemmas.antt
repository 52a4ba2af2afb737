-- The ids that rows tell are those of the document, each for its component.
use Rattle.std.proofs.Common.{◌≡◌, ◌∙◌, ap, sym, refl, subst, ℕ, suc, Bool, List, [], ◌∷◌, ◌++◌, map, flat_map, Option, Some, None, Result}
use Rattle.std.specs.Prelude.{slice_get, OnOk}
use Rattle.std.specs.Option.{unwrap_or}
use Rattle.qml_base.specs.declared.load_cause.LoadCause.TheVariants as cause
use Rattle.qml_syntax.specs.Tree.{Units}
use Rattle.qml_syntax.specs.Nodes.{Table}
use Rattle.program_names.specs.declared.fault.Fault.{Fault}
use Rattle.program_names.specs.Written.{WrittenMember, an_id, OwnedMember}
use Rattle.program_names.specs.Loaded.{Program, Unit as AUnit, unit_at, no_unit}
use Rattle.program_names.specs.Components.{Roots, Id, root_of, with_id, ids_of_rows, ids_written}
use Rattle.document_rows.specs.WholePaths.{path_at}
use Rattle.document_members.specs.declared.member.Member.{Member}
use Rattle.document_members.specs.declared.member.Member.TheVariants as m
use Rattle.document_members.specs.Members.{written_in}
use Rattle.load_faults.specs.Faults.{first_from}
use Rattle.load_faults.specs.Duplicates.{duplicate_ids, ids_twice}
use Rattle.load_passes.specs.declared.repeated.NameRow.{NameRow}
use Rattle.load_passes.specs.Rows.{repeated, id_row, id_faults}
use Rattle.program_tables.specs.declared.building.UnitRow.{UnitRow}
use Rattle.program_tables.specs.RowsSay.{RowsSay}
use Rattle.program_tables.proofs.GroupLemmas.{is_filled}
use Rattle.alias_tables.specs.Roots.{root_at}
use Rattle.alias_tables.specs.Ids.{KnowsRoots}
use Rattle.document_tables.specs.declared.program.DocumentTable.{DocumentTable}
use Rattle.document_tables.specs.declared.program.ProgramTables.{ProgramTables}
use Rattle.document_tables.specs.Groups.{insides}
use Rattle.document_tables.specs.Tables.{TellProgram}
use Rattle.name_faults.specs.Names.{by_rows}
use Rattle.name_faults.proofs.SayLemmas.{AllAre, rows_said}
use Rattle.name_faults.proofs.PassLemmas.{none_in_both}
use Rattle.id_faults.specs.Ids.{id_in, id_of, faults_of_rows}

-- ---- one member

abbrev row_written : Program → Roots → ℕ → ℕ → WrittenMember → List NameRow
row_written p known d o w = map (id_row p known d) (with_id o w [])

of_root : (p : Program) (known : Roots) (d o : ℕ) (t : Table) (before : List Units) (n : ℕ) (x : Member)
    → id_in (root_of p known d o) (is_filled before) x ≡ row_written p known d o (written_in t before n x)
of_root p known d o t [] n (m.Id w name at) = refl
of_root p known d o t [] n _ = refl
of_root p known d o t (b ∷ bs) n (m.Id w name at) = refl
of_root p known d o t (b ∷ bs) n _ = refl

-- ---- all rows

-- the root of an object's component is the one that is told
abbrev RootTold : Program → Roots → ℕ → List ℕ → ℕ → Type 0
RootTold p known d roots o = root_at roots o ≡ root_of p known d o

roots_told : (p : Program) (known : Roots) (d : ℕ) (roots : List ℕ) (ws : List OwnedMember)
    → ((k : ℕ) (w : OwnedMember) → slice_get ws k ≡ Some w → RootTold p known d roots w.object) → AllAre (RootTold p known d roots) ws
roots_told p known d roots [] h = tt
roots_told p known d roots (w ∷ ws) h = (h 0 w refl, roots_told p known d roots ws (λ k x e. h (suc k) x e))

one_id : (p : Program) (known : Roots) (d o : ℕ) (w : WrittenMember) (rest : List Id)
    → row_written p known d o w ++ map (id_row p known d) rest ≡ map (id_row p known d) (with_id o w rest)
one_id p known d o (an_id word name at) rest = refl
one_id p known d o _ rest = refl

all_ids : (p : Program) (known : Roots) (d : ℕ) (ws : List OwnedMember)
    → flat_map (λ (w : OwnedMember). row_written p known d w.object w.member) ws ≡ map (id_row p known d) (ids_of_rows ws)
all_ids p known d [] = refl
all_ids p known d (w ∷ ws) =
    ap (λ xs. row_written p known d w.object w.member ++ xs) (all_ids p known d ws) ∙ one_id p known d w.object w.member (ids_of_rows ws)

ids_said : (p : Program) (known : Roots) (d : ℕ) (t : Table) (roots : List ℕ) (rows : List UnitRow) (ws : List OwnedMember) → RowsSay p d t [] rows ws
    → AllAre (RootTold p known d roots) ws → by_rows (id_of roots) rows (insides [] rows) ≡ map (id_row p known d) (ids_of_rows ws)
ids_said p known d t roots rows ws says told =
    rows_said p d (RootTold p known d roots) t (id_of roots) (row_written p known d)
    (λ before r h. ap (λ n. id_in n (is_filled before) r.member) h ∙ of_root p known d r.row.object t before r.row.first r.member)
    [] [] rows ws says refl told ∙
    all_ids p known d ws

-- ---- a document

-- the law, as it is called
abbrev IdsAsRows : Type 0
IdsAsRows = (p : Program) (known : Roots) (d : ℕ) → id_faults p known d ≡ duplicate_ids p known d

pub ids_found : (p : Program) (known : Roots) (tables : ProgramTables) (d : ℕ) (roots : List ℕ) (x : DocumentTable) (kept after : Option Fault) {T E : Type 0} (r : Result T E) → IdsAsRows
    → TellProgram p tables → KnowsRoots p known d roots → slice_get tables.documents.items d ≡ Some x
    → OnOk r (after ≡ first_from kept (faults_of_rows roots x.rows.items x.inside.items)) → OnOk r (after ≡ first_from kept (duplicate_ids p known d))
ids_found p known tables d roots x kept after r law h knows e told =
    let y = h.tells d x e in
    let ws : List OwnedMember = (unit_at p d).rows in
    let says : RowsSay p d y.2.unit.tree [] x.rows.items ws = subst (λ rs. RowsSay p d y.2.unit.tree [] rs ws) y.2.made y.2.unit.says in
    subst (λ z. OnOk r (after ≡ z))
    (ap (first_from kept)
    (ap (repeated cause.DuplicateId [])
    (ap (by_rows (id_of roots) x.rows.items) y.2.groups ∙
    ids_said p known d y.2.unit.tree roots x.rows.items ws says (roots_told p known d roots ws (λ k w g. (knows k w g).0))) ∙
    law p known d))
    told

-- ---- no document

pub nothing_found : (p : Program) (known : Roots) (tables : ProgramTables) (d : ℕ) (kept : Option Fault) → TellProgram p tables → slice_get tables.documents.items d ≡ None
    → kept ≡ first_from kept (duplicate_ids p known d)
nothing_found p known tables d kept h e =
    let none : (unit_at p d).rows ≡ [] = ap (λ (o : Option AUnit). (unwrap_or o no_unit).rows) (none_in_both tables.documents.items p d h.long e) in
    ap (λ ws. first_from kept (ids_twice p known d [] (ids_of_rows ws))) (sym none)
