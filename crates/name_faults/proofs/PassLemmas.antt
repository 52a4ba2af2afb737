-- The names that a document uses twice are told by its rows.
use Rattle.std.proofs.Common.{◌≡◌, ◌∙◌, ap, sym, refl, subst, arith, ℕ, zero, suc, ◌+◌, ◌-◌, ◌<◌, ◌≤◌, Bool, true, false, if◌then◌else◌, List, [], ◌∷◌, ◌++◌, length, map, Option, Some, None, is_some, Result}
use Rattle.std.specs.Prelude.{slice_get, OnOk}
use Rattle.std.specs.Option.{unwrap_or}
use Rattle.std.proofs.lemmas.Bool.{false≢true}
use Rattle.qml_base.specs.declared.load_cause.LoadCause.TheVariants as cause
use Rattle.qml_types.specs.declared.kind.TypeNo.TheVariants as no
use Rattle.qml_types.specs.declared.kind.TypeRef.{TypeRef}
use Rattle.qml_types.specs.declared.kind.TypeRef.TheVariants.{Builtin}
use Rattle.program_names.specs.declared.fault.Fault.{Fault}
use Rattle.program_names.specs.Written.{WrittenMember, OwnedMember}
use Rattle.program_names.specs.Loaded.{Program, Unit as AUnit, unit_at, no_unit}
use Rattle.program_names.specs.Layers.{is_a, is_type, type_names, own_names, Named}
use Rattle.program_names.specs.Names.{is_in}
use Rattle.program_names.specs.Written.{an_id, a_value}
use Rattle.qml_syntax.specs.Tree.{Units}
use Rattle.qml_syntax.specs.Nodes.{Table}
use Rattle.document_rows.specs.WrittenObjects.{kept}
use Rattle.load_faults.specs.Faults.{Faults, fault_if, objects_from, first_from}
use Rattle.load_faults.specs.Duplicates.{declared_twice, second_ids, roles_twice}
use Rattle.load_faults.proofs.FirstLemmas.{first_from-append}
use Rattle.program_tables.specs.declared.building.UnitRow.{UnitRow}
use Rattle.program_tables.specs.declared.names.UnitNames.{UnitNames}
use Rattle.program_tables.specs.RowsSay.{RowsSay}
use Rattle.program_tables.specs.Stands.{Stands, is_there}
use Rattle.program_tables.specs.Types.{any_of, base_in}
use Rattle.document_tables.specs.declared.program.DocumentTable.{DocumentTable}
use Rattle.document_tables.specs.declared.program.ProgramTables.{ProgramTables}
use Rattle.document_tables.specs.Tables.{Tells, TellProgram, tree_in}
use Rattle.written_order.specs.InOrder.{HasMembers, ToldAlike, names_written, id_rows, role_rows, declared_rows}
use Rattle.name_faults.specs.Names.{faults_by_names, first_found, by_rows, id_of, role_of, declared_of, again, faults_of_rows}
use Rattle.document_tables.proofs.ThereLemmas.{AllThere, rows_there}
use Rattle.name_faults.proofs.SayLemmas.{ids_said, roles_said, declared_said}
use Rattle.name_faults.proofs.TakenLemmas.{NamesMean, names_told}

-- ---- the code

pub told_three : (first second third fourth : Option Fault) (a b c : Faults) → second ≡ first_from first a → third ≡ first_from second b → fourth ≡ first_from third c
    → fourth ≡ first_from first (a ++ (b ++ c))
told_three first second third fourth a b c e f g =
    g ∙ ap (λ k. first_from k c) (f ∙ ap (λ k. first_from k b) e) ∙ sym (first_from-append (first_from first a) b c) ∙ sym (first_from-append first a (b ++ c))

-- ---- a document

alike_both : (a b c e : Faults) → ToldAlike a c → ToldAlike b e → ToldAlike (a ++ b) (c ++ e)
alike_both a b c e h g kept =
    first_from-append kept a b ∙ g (first_from kept a) ∙ ap (λ k. first_from k e) (h kept) ∙ sym (first_from-append kept c e)

-- the laws of what is told in the order of writing, as they are called

abbrev DeclaredAlike : Type 0
DeclaredAlike = (p : Program) (d : ℕ) → HasMembers p d → ToldAlike (again (names_written p d (declared_rows p d))) (declared_twice p d)

abbrev IdsAlike : Type 0
IdsAlike = (p : Program) (d : ℕ) → HasMembers p d → ToldAlike (again (names_written p d id_rows)) (second_ids p d)

abbrev RolesAlike : Type 0
RolesAlike = (p : Program) (d : ℕ) → HasMembers p d → ToldAlike (again (names_written p d (role_rows p d))) (roles_twice p d)

abbrev TypesMean : Type 0
TypesMean =
    (p : Program) (us : List UnitNames) → Stands p us → (d o : ℕ) → is_there us d o ≡ true → (wanted : TypeRef)
    → any_of (length us + 1) us wanted (base_in us d o) ≡ is_a p d o wanted

told_so : (some others faults : Faults) → some ≡ others → ToldAlike others faults → ToldAlike some faults
told_so some others faults e h kept = ap (first_from kept) e ∙ h kept

document_told : (p : Program) (d : ℕ) (us : List UnitNames) (tree : Table) (names : UnitNames) (rows : List UnitRow) (inside : List Bool) → NamesMean → TypesMean → DeclaredAlike → IdsAlike → RolesAlike
    → Stands p us → slice_get us d ≡ Some names → Tells p d tree names rows inside → ToldAlike (faults_of_rows us d rows inside) (faults_by_names p d)
document_told p d us tree names rows inside mean types declared ids roles stands e t =
    let ws : List OwnedMember = (unit_at p d).rows in
    let says : RowsSay p d t.unit.tree [] rows ws = subst (λ rs. RowsSay p d t.unit.tree [] rs ws) t.made t.unit.says in
    let there : AllThere us d ws = rows_there p d us tree names rows inside e t in
    alike_both (again (by_rows (declared_of us d) rows inside)) (again (by_rows id_of rows inside) ++ again (by_rows (role_of us d) rows inside)) (declared_twice p d) (second_ids p d ++ roles_twice p d)
    (told_so (again (by_rows (declared_of us d) rows inside)) (again (names_written p d (declared_rows p d))) (declared_twice p d)
    (ap again (ap (by_rows (declared_of us d) rows) t.groups ∙ declared_said p d us t.unit.tree rows ws (names_told mean p us stands d) says there)) (declared p d t.unit.members))
    (alike_both (again (by_rows id_of rows inside)) (again (by_rows (role_of us d) rows inside)) (second_ids p d) (roles_twice p d)
    (told_so (again (by_rows id_of rows inside)) (again (names_written p d id_rows)) (second_ids p d)
    (ap again (ap (by_rows id_of rows) t.groups ∙ ids_said p d us t.unit.tree rows ws says there)) (ids p d t.unit.members))
    (told_so (again (by_rows (role_of us d) rows inside)) (again (names_written p d (role_rows p d))) (roles_twice p d)
    (ap again
    (ap (by_rows (role_of us d) rows) t.groups ∙
    roles_said p d us t.unit.tree rows ws (λ o h. types p us stands d o h (Builtin no.ListElement)) says there))
    (roles p d t.unit.members)))

pub names_found : (p : Program) (tables : ProgramTables) (d : ℕ) (x : DocumentTable) (kept after : Option Fault) {T E : Type 0} (r : Result T E) → NamesMean → TypesMean → DeclaredAlike → IdsAlike → RolesAlike
    → TellProgram p tables → slice_get tables.documents.items d ≡ Some x
    → OnOk r (after ≡ first_from kept (faults_of_rows tables.names.units.items d x.rows.items x.inside.items)) → OnOk r (after ≡ first_from kept (faults_by_names p d))
names_found p tables d x kept after r mean types declared ids roles h e told =
    let y = h.tells d x e in
    subst (λ z. OnOk r (after ≡ z))
    (document_told p d tables.names.units.items (tree_in x.content.value) y.0 x.rows.items x.inside.items mean types declared ids roles h.stands y.1 y.2 kept) told

-- ---- no document

-- the definitions of the causes, by the words that they are made of

abbrev names_again : List Units → List Named → Faults
names_again seen [] = []
names_again seen (n ∷ rest) = fault_if (is_in n.name seen) n.at cause.DuplicateName ++ names_again (n.name ∷ seen) rest

abbrev names_twice : Program → ℕ → ℕ → Faults
names_twice p d o = names_again (map (λ (n : Named). n.name) (type_names p d o)) (own_names p d o)

abbrev ids_again : Bool → List WrittenMember → Faults
ids_again seen [] = []
ids_again seen (an_id word n at ∷ rest) = fault_if seen word cause.DuplicateName ++ ids_again true rest
ids_again seen (m ∷ rest) = ids_again seen rest

abbrev roles_again : List Units → List WrittenMember → Faults
roles_again seen [] = []
roles_again seen (a_value at (n ∷ []) v ∷ rest) = fault_if (is_in n seen) at cause.DuplicateName ++ roles_again (n ∷ seen) rest
roles_again seen (m ∷ rest) = roles_again seen rest

pub none_in_both : {X Y : Type 0} (xs : List X) (ys : List Y) (d : ℕ) → length xs ≡ length ys → slice_get xs d ≡ None → Path (Option Y) (slice_get ys d) None
none_in_both [] [] d e h = refl
none_in_both [] (y ∷ ys) d e h = absurd (omega arith)
none_in_both (x ∷ xs) [] d e h = absurd (omega arith)
none_in_both (x ∷ xs) (y ∷ ys) zero e h = absurd (false≢true (sym (ap is_some h)))
none_in_both (x ∷ xs) (y ∷ ys) (suc d) e h = let l : length xs ≡ length ys = omega arith in none_in_both xs ys d l h

no_faults : (p : Program) (d : ℕ) → slice_get p d ≡ None → faults_by_names p d ≡ []
no_faults p d e =
    let none : (unit_at p d).objects ≡ [] = ap (λ (o : Option AUnit). (unwrap_or o no_unit).objects) e in
    ap (λ xs. xs ++ (second_ids p d ++ roles_twice p d)) (ap (λ ws. objects_from 0 ws (λ o w. names_twice p d o)) none) ∙
    ap (λ xs. xs ++ roles_twice p d) (ap (λ ws. objects_from 0 ws (λ o w. ids_again false w.members)) none) ∙
    ap (λ ws. objects_from 0 ws (λ o w. if is_type p d o no.ListElement then roles_again [] w.members else [])) none

pub nothing_found : (p : Program) (tables : ProgramTables) (d : ℕ) (kept : Option Fault) → TellProgram p tables → slice_get tables.documents.items d ≡ None
    → kept ≡ first_from kept (faults_by_names p d)
nothing_found p tables d kept h e = ap (first_from kept) (sym (no_faults p d (none_in_both tables.documents.items p d h.long e)))

-- ---- document after document

left_more : (n d : ℕ) → d < n → n - d ≡ suc (n - (d + 1))
left_more n d h = omega arith

none_left : (n d : ℕ) → n ≤ d → n - d ≡ 0
none_left n d h = omega arith

pub found_none : (f : ℕ → Option Fault) (n d : ℕ) (all : Option (ℕ × Fault)) → d < n → f d ≡ None → first_found f d (n - d) ≡ all → first_found f (d + 1) (n - (d + 1)) ≡ all
found_none f n d all h e l =
    ap (λ k. first_found f k (n - (d + 1))) (one_more d) ∙ sym (ap (λ (o : Option Fault). elim o [ Some x ↦ Some (d, x) | None ↦ first_found f (suc d) (n - (d + 1)) ]) e) ∙
    ap (first_found f d) (sym (left_more n d h)) ∙ l
  where
    one_more : (k : ℕ) → k + 1 ≡ suc k
    one_more k = omega arith

pub found_some : (f : ℕ → Option Fault) (n d : ℕ) (x : Fault) (all : Option (ℕ × Fault)) → d < n → f d ≡ Some x → first_found f d (n - d) ≡ all → Some (d, x) ≡ all
found_some f n d x all h e l =
    sym (ap (λ (o : Option Fault). elim o [ Some x ↦ Some (d, x) | None ↦ first_found f (suc d) (n - (d + 1)) ]) e) ∙ ap (first_found f d) (sym (left_more n d h)) ∙ l

pub found_at_end : (f : ℕ → Option Fault) (n d : ℕ) (all : Option (ℕ × Fault)) → n ≤ d → first_found f d (n - d) ≡ all → None ≡ all
found_at_end f n d all h l = ap (first_found f d) (sym (none_left n d h)) ∙ l
