-- The types of a document's objects, and how many objects there are.
use Rattle.std.proofs.Common.{◌≡◌, ◌∙◌, ap, sym, refl, ℕ, zero, suc, false, Bool, true, List, [], ◌∷◌, ◌++◌, length, map, Option, Some, None, is_some}
use Rattle.std.specs.Prelude.{slice_get, ◌||◌}
use Rattle.std.specs.Option.{option_map, unwrap_or}
use Rattle.std.proofs.lemmas.Bool.{false≢true}
use Rattle.qml_syntax.specs.Tree.{TypeName, document, Object, object, Members, whole_document}
use Rattle.qml_syntax.specs.Nodes.{of_object, Table}
use Rattle.qml_syntax.specs.Places.{part_at}
use Rattle.qml_types.specs.declared.kind.TypeRef.{TypeRef}
use Rattle.program_names.specs.Written.{WrittenAs, WrittenObject, as_root, objects_of}
use Rattle.program_names.specs.Reading.{File, is_document}
use Rattle.program_names.specs.Loaded.{Program, Unit as AUnit, unit_of, unit_at, no_object, type_of_object, type_named_by}
use Rattle.document_rows.specs.declared.rows.ObjectRow.{ObjectRow}
use Rattle.document_rows.specs.declared.rows.MemberRow.{MemberRow}
use Rattle.document_rows.specs.Entries.{objects_with, members_with, object_entry, AreRows}
use Rattle.document_rows.specs.WrittenObjects.{Placed, placed_behind, typed_by, typed, type_in}
use Rattle.document_rows.proofs.RoleLemmas.{objects_by_rows}
use Rattle.program_tables.specs.declared.building.UnitRow.{UnitRow}
use Rattle.program_tables.specs.declared.names.ObjectNames.{ObjectNames}
use Rattle.document_members.specs.declared.member.Member.{Member}
use Rattle.document_members.specs.declared.member.Member.TheVariants as m
use Rattle.program_tables.specs.Building.{nothing_declared, declared, is_group, is_inside, changed_at, row_added, rows_added}
use Rattle.program_types.specs.Numbers.{files_in}
use Rattle.document_tables.specs.Finding.{or_object, object_type}
use Rattle.document_tables.proofs.KindLemmas.{here_in, imports_in, node_type}
use Rattle.document_tables.proofs.ObjectLemmas.{objects_here, object_there}

pub get_map : {A B : Type 0} (f : A → B) (xs : List A) (i : ℕ) → slice_get (map f xs) i ≡ option_map f (slice_get xs i)
get_map f [] i = refl
get_map f (x ∷ xs) zero = refl
get_map f (x ∷ xs) (suc i) = get_map f xs i

pub length_map : {A B : Type 0} (f : A → B) (xs : List A) → length (map f xs) ≡ length xs
length_map f [] = refl
length_map f (x ∷ xs) = ap suc (length_map f xs)

got_map : {A B : Type 0} (f : A → B) (xs : List A) (o : ℕ) (y : B) → slice_get (map f xs) o ≡ Some y → (x : A) × (slice_get xs o ≡ Some x) × (y ≡ f x)
got_map f [] o y e = absurd (false≢true (ap is_some e))
got_map f (x ∷ xs) zero y e = (x, refl, sym (ap (λ z. unwrap_or z y) e))
got_map f (x ∷ xs) (suc o) y e = got_map f xs o y e

-- ---- types

typed_there : (y : Option WrittenObject) (z : TypeName × WrittenAs) → option_map typed y ≡ Some z → (unwrap_or y no_object).type ≡ z.0
typed_there None z e = absurd (false≢true (ap is_some e))
typed_there (Some w) z e = ap (λ o. (unwrap_or o z).0) e

abbrev all_placed : Object → List Placed
all_placed root = placed_behind [] (members_with 0 0 root)

type_written : (t : Table) (objects : List ObjectRow) (members : List MemberRow) (a : AreRows t objects members) (o : ℕ) (r : ObjectRow) (x : TypeName) (ms : Members)
    → slice_get objects o ≡ Some r → part_at t r.node ≡ of_object (object x ms) → (unwrap_or (slice_get (objects_of as_root 0 a.root) o) no_object).type ≡ x
type_written t objects members a o r x ms e part =
    typed_there (slice_get (objects_of as_root 0 a.root) o) (typed_by (all_placed a.root) (object_entry t r))
    (sym (get_map typed (objects_of as_root 0 a.root) o) ∙ ap (λ xs. slice_get xs o) (sym (objects_by_rows a.root)) ∙
    get_map (typed_by (all_placed a.root)) (objects_with None 0 a.root) o ∙
    ap (λ es. option_map (typed_by (all_placed a.root)) (slice_get es o)) (sym a.all_objects) ∙
    ap (option_map (typed_by (all_placed a.root))) (get_map (object_entry t) objects o ∙ ap (option_map (object_entry t)) e)) ∙
    ap type_in part

pub bases_told : (p : Program) (d : ℕ) (file : File) (t : Table) (objects : List ObjectRow) (members : List MemberRow) (a : AreRows t objects members)
    → unit_at p d ≡ unit_of file (is_document (document a.imports a.root)) → (o : ℕ) (b : TypeRef)
    → slice_get (map (λ (r : ObjectRow). object_type (files_in p) (here_in p d) (imports_in p d) t r.node) objects) o ≡ Some b → b ≡ type_of_object p d o
bases_told p d file t objects members a e o b g =
    let r = got_map (λ (r : ObjectRow). object_type (files_in p) (here_in p d) (imports_in p d) t r.node) objects o b g in
    let entry : slice_get (objects_with None 0 a.root) o ≡ Some (object_entry t r.0) =
    ap (λ es. slice_get es o) (sym a.all_objects) ∙ get_map (object_entry t) objects o ∙ ap (option_map (object_entry t)) r.1 in
    let x = object_there (objects_with None 0 a.root) (objects_here None 0 a.root) o (object_entry t r.0) entry in
    r.2 ∙ ap or_object (node_type p d t r.0.node x.0 x.1 (whole_document (document a.imports a.root), a.tree) x.2) ∙
    ap (λ y. or_object (type_named_by p d y))
    (sym (ap (λ (v : AUnit). (unwrap_or (slice_get v.objects o) no_object).type) e ∙ type_written t objects members a o r.0 x.0 x.1 r.1 x.2))

-- ---- how many

pub count_of_objects : (t : Table) (objects : List ObjectRow) (members : List MemberRow) (a : AreRows t objects members) → length objects ≡ length (objects_of as_root 0 a.root)
count_of_objects t objects members a =
    sym (length_map (object_entry t) objects) ∙ ap length a.all_objects ∙ sym (length_map (typed_by (all_placed a.root)) (objects_with None 0 a.root)) ∙
    ap length (objects_by_rows a.root) ∙ length_map typed (objects_of as_root 0 a.root)

abbrev pub bases_in : List ObjectNames → List TypeRef
bases_in xs = map (λ (x : ObjectNames). x.base) xs

change_keeps : (xs : List ObjectNames) (o : ℕ) (f : ObjectNames → ObjectNames) → ((x : ObjectNames) → (f x).base ≡ x.base) → bases_in (changed_at xs o f) ≡ bases_in xs
change_keeps [] o f h = refl
change_keeps (x ∷ xs) zero f h = ap (λ b. b ∷ bases_in xs) (h x)
change_keeps (x ∷ xs) (suc o) f h = ap (λ bs. x.base ∷ bs) (change_keeps xs o f h)

declared_keeps : (i : ℕ) (r : UnitRow) (y : Member) (x : ObjectNames) → (declared i r.kind y x).base ≡ x.base
declared_keeps i r (m.Property q a k n at v) x = refl
declared_keeps i r _ x = refl

row_keeps : (b : Bool) (i : ℕ) (r : UnitRow) (xs : List ObjectNames) → bases_in (row_added b i r xs) ≡ bases_in xs
row_keeps true i r xs = refl
row_keeps false i r xs = change_keeps xs r.row.object (declared i r.kind r.member) (declared_keeps i r r.member)

rows_keep : (i : ℕ) (grouping : List Bool) (rows : List UnitRow) (xs : List ObjectNames) → bases_in (rows_added i grouping rows xs) ≡ bases_in xs
rows_keep i grouping [] xs = refl
rows_keep i grouping (r ∷ rest) xs =
    rows_keep (suc i) (grouping ++ (is_inside grouping r.row.group || is_group r.member) ∷ []) rest (row_added (is_inside grouping r.row.group) i r xs) ∙
    row_keeps (is_inside grouping r.row.group) i r xs

nothing_keeps : (bases : List TypeRef) → bases_in (map nothing_declared bases) ≡ bases
nothing_keeps [] = refl
nothing_keeps (b ∷ bases) = ap (λ bs. b ∷ bs) (nothing_keeps bases)

-- the types of the objects are kept
pub bases_kept : (rows : List UnitRow) (bases : List TypeRef) → bases_in (rows_added 0 [] rows (map nothing_declared bases)) ≡ bases
bases_kept rows bases = rows_keep 0 [] rows (map nothing_declared bases) ∙ nothing_keeps bases
