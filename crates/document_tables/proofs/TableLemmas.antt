-- The table of a file tells it, wherever it stands in a program.
use Rattle.std.proofs.Common.{◌≡◌, ◌∙◌, ap, sym, refl, subst, inl, inr, arith, ℕ, zero, suc, ◌<◌, Bool, true, List, [], ◌∷◌, length, map, Option, Some, None, is_some, Result, IfOk}
use Rattle.std.specs.Prelude.{slice_get}
use Rattle.std.specs.Option.{unwrap_or}
use Rattle.std.proofs.lemmas.Bool.{false≢true}
use Rattle.qml_syntax.specs.Tree.{Import, Document, document, script, Object, object, Whole, whole_document}
use Rattle.qml_syntax.specs.Nodes.{Table}
use Rattle.qml_syntax.specs.Listed.{listed_document}
use Rattle.qml_syntax.specs.Opened.{IsListing}
use Rattle.qml_syntax.proofs.RootLemmas.{listed_once}
use Rattle.qml_base.specs.declared.memory.NoMemory.{NoMemory}
use Rattle.file_sources.specs.declared.content.Content.{Content}
use Rattle.file_sources.specs.declared.content.Content.TheVariants as content
use Rattle.file_sources.specs.Contents.{Shows}
use Rattle.qml_types.specs.declared.kind.TypeRef.{TypeRef}
use Rattle.program_names.specs.Paths.{Path as FilePath, directory_of}
use Rattle.program_names.specs.Written.{as_root, objects_of}
use Rattle.program_names.specs.Reading.{File, Source, no_file, too_large, unread, is_document, is_script}
use Rattle.program_names.specs.Loaded.{Program, Unit as AUnit, unit_of, unit_at, no_object, type_of_object, type_named_by}
use Rattle.document_imports.specs.Imports.{WrittenImport, row_of}
use Rattle.document_rows.specs.declared.rows.ObjectRow.{ObjectRow}
use Rattle.document_rows.specs.declared.rows.MemberRow.{MemberRow}
use Rattle.document_rows.specs.Entries.{member_entry, members_with, AreRows}
use Rattle.document_rows.specs.WholePaths.{rows_behind}
use Rattle.document_rows.specs.WrittenObjects.{members_of_object}
use Rattle.document_rows.proofs.PathLemmas.{whole_paths}
use Rattle.document_rows.proofs.OwnedLemmas.{members_by_rows}
use Rattle.document_members.specs.Members.{ReadsMembers}
use Rattle.program_tables.specs.declared.building.UnitRow.{UnitRow}
use Rattle.program_tables.specs.declared.names.ObjectNames.{ObjectNames}
use Rattle.program_tables.specs.declared.names.UnitNames.{UnitNames}
use Rattle.program_tables.specs.Building.{nothing_declared, rows_added}
use Rattle.program_tables.specs.RowsSay.{RowsSay, row_of as own_row, member_of_row}
use Rattle.program_tables.proofs.TreeLemmas.{AreMembers, in_object, row_after_row, members_there}
use Rattle.program_types.specs.Numbers.{files_in}
use Rattle.document_tables.specs.Finding.{or_object, object_type, nameless_type}
use Rattle.program_types.specs.Numbers.{type_in}
use Rattle.document_tables.specs.Making.{MakesRows}
use Rattle.document_tables.specs.Groups.{insides}
use Rattle.document_tables.specs.declared.document.UnitTable.{UnitTable}
use Rattle.document_tables.specs.Tables.{Tells, TableOf, tree_in, is_nothing}
use Rattle.document_tables.proofs.MakingLemmas.{rows_made, rows_read, kinds_found}
use Rattle.document_tables.proofs.KindLemmas.{here_in, imports_in, kinds_said, no_name}
use Rattle.document_tables.proofs.BaseLemmas.{length_map, bases_told, count_of_objects, bases_in, bases_kept}

positive : (n : ℕ) → 0 < suc n
positive n = omega arith

some_objects : (root : Object) → 0 < length (objects_of as_root 0 root)
some_objects (object t ms) = positive _

-- ---- a document

abbrev types_found : List File → FilePath → List WrittenImport → Table → List ObjectRow → List TypeRef
types_found files here imports t objects = map (λ (r : ObjectRow). object_type files here imports t r.node) objects

document_tells : (p : Program) (k : ℕ) (file : File) (t : Table) (objects : List ObjectRow) (members : List MemberRow) (rows : List UnitRow) (inside : List Bool) (bases : List TypeRef) (names : UnitNames)
    → (a : AreRows t objects members) → unit_at p k ≡ unit_of file (is_document (document a.imports a.root))
    → bases ≡ types_found (files_in p) (here_in p k) (imports_in p k) t objects → MakesRows (files_in p) (here_in p k) (imports_in p k) t members rows
    → inside ≡ insides [] rows → names.objects.items ≡ rows_added 0 [] rows (map nothing_declared bases) → Tells p k t names rows inside
document_tells p k file t objects members rows inside bases names a e b makes i built =
    let lists : IsListing t = (whole_document (document a.imports a.root), a.tree) in
    let made : map own_row rows ≡ members = rows_made (files_in p) (here_in p k) (imports_in p k) t members rows makes in
    let entries : map (member_entry t) (map own_row rows) ≡ members_with 0 0 a.root = ap (map (member_entry t)) made ∙ a.all_members in
    let all : rows_behind [] (map (member_entry t) (map own_row rows)) ≡ (unit_at p k).rows =
    ap (rows_behind []) entries ∙ whole_paths a.root ∙ ap (λ (v : AUnit). v.rows) (sym e) in
    let count : length names.objects.items ≡ length objects =
    sym (length_map (λ (x : ObjectNames). x.base) names.objects.items) ∙ ap length (ap bases_in built ∙ bases_kept rows bases ∙ b) ∙
    length_map (λ (r : ObjectRow). object_type (files_in p) (here_in p k) (imports_in p k) t r.node) objects in
    record {
      unit = record {
        tree = t;
        bases = types_found (files_in p) (here_in p k) (imports_in p k) t objects;
        rows = rows;
        built = built ∙ ap (λ bs. rows_added 0 [] rows (map nothing_declared bs)) b;
        says = subst (λ ws. RowsSay p k t [] rows ws) all
            (row_after_row p k t [] rows (subst AreMembers (sym entries) (in_object 0 0 a.root))
            (subst (λ ms. ReadsMembers t ms (map member_of_row rows)) (sym made) (rows_read (files_in p) (here_in p k) (imports_in p k) t members rows makes))
            (kinds_said p k t rows lists (kinds_found (files_in p) (here_in p k) (imports_in p k) t members rows makes)));
        members = λ o.
            ap (λ (v : AUnit). (unwrap_or (slice_get v.objects o) no_object).members) e ∙ members_there (objects_of as_root 0 a.root) o ∙ members_by_rows a.root o ∙
            ap (λ (v : AUnit). members_of_object o v.rows) (sym e);
        types = λ o c g. bases_told p k file t objects members a e o c g;
      };
      tree = refl;
      made = refl;
      groups = i;
      there = λ o less.
          subst (λ n. o < n) (ap (λ (v : AUnit). length v.objects) e ∙ sym (count_of_objects t objects members a) ∙ sym count) less;
      root = subst (λ n. 0 < n) (sym (count ∙ count_of_objects t objects members a)) (some_objects a.root);
    }

abbrev document_in : Document → Whole → Document
document_in d (whole_document e) = e
document_in d _ = d

one_document : (t : Table) (d e : Document) → listed_document d ≡ t → listed_document e ≡ t → d ≡ e
one_document t d e g h = ap (document_in d) (listed_once (whole_document d) (whole_document e) (g ∙ sym h))

pub document_made : (files : List File) (here : FilePath) (file : File) (t : Table) (objects : List ObjectRow) (members : List MemberRow) (imports : List WrittenImport) (rows : List UnitRow) (inside : List Bool)
    (bases : List TypeRef) (names : UnitNames) → here ≡ directory_of file.path → AreRows t objects members
    → ((is : List Import) (root : Object) → listed_document (document is root) ≡ t → imports ≡ map (row_of here) is)
    → bases ≡ types_found files here imports t objects → MakesRows files here imports t members rows → inside ≡ insides [] rows
    → names.objects.items ≡ rows_added 0 [] rows (map nothing_declared bases) → (d : Document) → listed_document d ≡ t → TableOf files (unit_of file (is_document d)) t names objects rows inside
document_made files here file t objects members imports rows inside bases names h a told b makes i built (document is root) g =
    let made : map own_row rows ≡ members = rows_made files here imports t members rows makes in
    let count : length names.objects.items ≡ length objects =
    sym (length_map (λ (x : ObjectNames). x.base) names.objects.items) ∙ ap length (ap bases_in built ∙ bases_kept rows bases ∙ b) ∙
    length_map (λ (r : ObjectRow). object_type files here imports t r.node) objects in
    record {
      tells = λ p k fs us. tell p k fs us;
      written = inl (record {
        file = file;
        are = record { imports = a.imports; root = a.root; tree = a.tree; all_objects = a.all_objects; all_members = ap (map (member_entry t)) made ∙ a.all_members };
        same = ap (λ d. unit_of file (is_document d)) (one_document t (document is root) (document a.imports a.root) g a.tree);
        read = subst (λ ms. ReadsMembers t ms (map member_of_row rows)) (sym made) (rows_read files here imports t members rows makes);
      });
      long = sym count;
    }
  where
    tell : (p : Program) (k : ℕ) → files_in p ≡ files → unit_at p k ≡ unit_of file (is_document (document is root)) → Tells p k t names rows inside
    tell p k fs us =
        let dirs : here ≡ here_in p k = h ∙ ap (λ (v : AUnit). directory_of v.file.path) (sym us) in
        let own : imports ≡ imports_in p k =
        told is root g ∙ ap (λ place. map (row_of place) is) dirs ∙ ap (λ (v : AUnit). map (row_of (here_in p k)) v.imports) (sym us) in
        document_tells p k file t objects members rows inside bases names a
        (us ∙ ap (λ d. unit_of file (is_document d)) (one_document t (document is root) (document a.imports a.root) g a.tree))
        (b ∙ ap (λ f. types_found f here imports t objects) (sym fs) ∙ ap (λ place. types_found (files_in p) place imports t objects) dirs ∙
        ap (λ rs. types_found (files_in p) (here_in p k) rs t objects) own)
        (subst (λ rs. MakesRows (files_in p) (here_in p k) rs t members rows) own
        (subst (λ place. MakesRows (files_in p) place imports t members rows) dirs
        (subst (λ f. MakesRows f here imports t members rows) (sym fs) makes)))
        i built

-- ---- no document

abbrev IsEmpty : AUnit → File → Type 0
IsEmpty u file = (u.file ≡ file) × (u.imports ≡ []) × (u.objects ≡ []) × (u.rows ≡ [])

nothing_there : (file : File) (s : Source) → is_nothing s ≡ true → IsEmpty (unit_of file s) file
nothing_there file no_file h = (refl, refl, refl, refl)
nothing_there file too_large h = (refl, refl, refl, refl)
nothing_there file (unread p why) h = (refl, refl, refl, refl)
nothing_there file (is_document d) h = absurd (false≢true h)
nothing_there file (is_script (script b fs)) h = (refl, refl, refl, refl)

only_base : (p : Program) (k : ℕ) (base : TypeRef) → base ≡ type_of_object p k 0 → (o : ℕ) (b : TypeRef) → slice_get (base ∷ []) o ≡ Some b → b ≡ type_of_object p k o
only_base p k base h zero b g = sym (ap (λ (y : Option TypeRef). unwrap_or y base) g) ∙ h
only_base p k base h (suc o) b g = absurd (false≢true (ap is_some g))

nothing_tells : (p : Program) (k : ℕ) (file : File) (base : TypeRef) (names : UnitNames) → IsEmpty (unit_at p k) file → base ≡ nameless_type (files_in p) (directory_of file.path)
    → names.objects.items ≡ rows_added 0 [] [] (map nothing_declared (base ∷ [])) → Tells p k [] names [] []
nothing_tells p k file base names e b built =
    let count : length names.objects.items ≡ 1 = ap length built in
    let own : base ≡ type_of_object p k 0 =
    b ∙ ap (λ place. or_object (type_in (files_in p) place [] None [])) (ap directory_of (ap (λ (f : File). f.path) (sym e.0))) ∙
    ap (λ is. or_object (type_in (files_in p) (here_in p k) (map (row_of (here_in p k)) is) None [])) (sym e.1) ∙
    ap or_object (no_name p k) ∙ ap (λ ws. or_object (type_named_by p k (unwrap_or (slice_get ws 0) no_object).type)) (sym e.2) in
    record {
      unit = record {
        tree = [];
        bases = base ∷ [];
        rows = [];
        built = built;
        says = subst (λ ws. RowsSay p k [] [] [] ws) (sym e.3) tt;
        members = λ o. ap (λ ws. (unwrap_or (slice_get ws o) no_object).members) e.2 ∙ ap (members_of_object o) (sym e.3);
        types = only_base p k base own;
      };
      tree = refl;
      made = refl;
      groups = refl;
      there = λ o less. absurd (none_below o (subst (λ n. o < n) (ap length e.2) less));
      root = subst (λ n. 0 < n) (sym count) (positive 0);
    }
  where
    none_below : (o : ℕ) → o < 0 → ⊥
    none_below o h = omega arith

pub nothing_made : (files : List File) (here : FilePath) (file : File) (base : TypeRef) (names : UnitNames) (objects : List ObjectRow) → here ≡ directory_of file.path → base ≡ nameless_type files here
    → names.objects.items ≡ rows_added 0 [] [] (map nothing_declared (base ∷ [])) → objects ≡ record { node = 0; row = None } ∷ [] → (s : Source) → is_nothing s ≡ true
    → TableOf files (unit_of file s) [] names objects [] []
nothing_made files here file base names objects h b built one s e = record {
  written = inr (record { none = (nothing_there file s e).2; no_members = (nothing_there file s e).3; alone = one; no_rows = refl });
  long = ap length one ∙ sym (ap length built);
  tells = λ p k fs us.
      nothing_tells p k file base names (subst (λ (u : AUnit). IsEmpty u file) (sym us) (nothing_there file s e))
      (b ∙ ap (λ f. nameless_type f here) (sym fs) ∙ ap (nameless_type (files_in p)) h) built;
}

-- ---- by what a file is

abbrev TableMade : List File → AUnit → Table → UnitTable → Type 0
TableMade files unit t made = TableOf files unit t made.names made.objects.items made.rows.items made.inside.items

pub document_shown : (r : Result UnitTable NoMemory) (files : List File) (file : File) (t : Table) (c : Content) → c ≡ content.Document t
    → ((d : Document) → listed_document d ≡ t → IfOk r (λ made. TableMade files (unit_of file (is_document d)) t made))
    → (s : Source) → Shows c s → IfOk r (λ made. TableMade files (unit_of file s) (tree_in c) made)
document_shown r files file t c is told s shows = by_document (subst (λ x. Shows x s) is shows)
  where
    by_document : (d : Document) × (listed_document d ≡ t) × (s ≡ is_document d) → IfOk r (λ made. TableMade files (unit_of file s) (tree_in c) made)
    by_document (d, same, e) =
        subst (λ x. IfOk r (λ made. TableMade files (unit_of file x) (tree_in c) made)) (sym e)
        (subst (λ table. IfOk r (λ made. TableMade files (unit_of file (is_document d)) table made)) (sym (ap tree_in is)) (told d same))

pub nothing_shown : (r : Result UnitTable NoMemory) (files : List File) (file : File) (c : Content) → tree_in c ≡ [] → ((s : Source) → Shows c s → is_nothing s ≡ true)
    → ((s : Source) → is_nothing s ≡ true → IfOk r (λ made. TableMade files (unit_of file s) [] made))
    → (s : Source) → Shows c s → IfOk r (λ made. TableMade files (unit_of file s) (tree_in c) made)
nothing_shown r files file c tree is told s shows =
    subst (λ table. IfOk r (λ made. TableMade files (unit_of file s) table made)) (sym tree) (told s (is s shows))
