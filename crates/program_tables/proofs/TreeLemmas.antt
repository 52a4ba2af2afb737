-- The rows of a tree, as they are read, say the members of its document.
use Rattle.std.proofs.Common.{◌≡◌, ◌∙◌, ap, sym, refl, subst, ℕ, suc, ◌+◌, false, List, [], ◌∷◌, ◌++◌, map, Option, Some, None}
use Rattle.std.specs.Option.{option_map, unwrap_or}
use Rattle.std.specs.Prelude.{slice_get}
use Rattle.qml_syntax.specs.Tree.{Units, document, Object, object, Members, no_members, a_member, Member as AMember, id, property, bare, alias, signal, method, given, group, child, Value, value_object, value_list, value_stmt, Objects, last_object, an_object}
use Rattle.qml_syntax.specs.Nodes.{of_member, Table}
use Rattle.qml_syntax.specs.Places.{part_at}
use Rattle.qml_types.specs.declared.kind.TypeRef.{TypeRef}
use Rattle.program_names.specs.Written.{count_object, count_member, WrittenObject, as_root, objects_of}
use Rattle.program_names.specs.Reading.{File, is_document}
use Rattle.program_names.specs.Loaded.{Program, Unit as AUnit, unit_of, unit_at, no_object, type_of_object}
use Rattle.document_rows.specs.declared.rows.ObjectRow.{ObjectRow}
use Rattle.document_rows.specs.Entries.{MemberEntry, rows_in_object, rows_in_member, members_with, members_of, members_inside, members_of_value, members_of_list, member_entry, AreRows}
use Rattle.document_rows.specs.WholePaths.{names_added, path_at, member_of, rows_behind}
use Rattle.document_rows.specs.WrittenObjects.{members_of_object, members_at}
use Rattle.document_rows.proofs.PathLemmas.{whole_paths}
use Rattle.document_rows.proofs.OwnedLemmas.{members_by_rows}
use Rattle.document_members.specs.Members.{written_in, added_by, Says, ReadsMembers}
use Rattle.program_tables.specs.declared.building.UnitRow.{UnitRow}
use Rattle.program_tables.specs.declared.names.UnitNames.{UnitNames}
use Rattle.program_tables.specs.Building.{nothing_declared, rows_added}
use Rattle.program_tables.specs.RowsSay.{SaysKinds, RowsSay, UnitSays, row_of, member_of_row}

-- ---- each entry is a member's

abbrev pub AreMembers : List MemberEntry → Type 0
AreMembers [] = Unit {0}
AreMembers (e ∷ es) = ((x : AMember) × (e.part ≡ of_member x false)) × AreMembers es

both : (es fs : List MemberEntry) → AreMembers es → AreMembers fs → AreMembers (es ++ fs)
both [] fs h g = g
both (e ∷ es) fs h g = (h.0, both es fs h.1 g)

mutual
  pub in_object : (n k : ℕ) (o : Object) → AreMembers (members_with n k o)
  in_object n k (object t ms) = in_members n None (suc n) k ms

  in_members : (o : ℕ) (g : Option ℕ) (n k : ℕ) (ms : Members) → AreMembers (members_of o g n k ms)
  in_members o g n k no_members = tt
  in_members o g n k (a_member x b ms) =
      ((x, refl), both (members_inside o n k x) (members_of o g (n + count_member x) (suc k + rows_in_member x) ms) (inside o n k x) (in_members o g (n + count_member x) (suc k + rows_in_member x) ms))

  inside : (o n k : ℕ) (x : AMember) → AreMembers (members_inside o n k x)
  inside o n k (id p x q c) = tt
  inside o n k (property p a y x q v) = in_value n (suc k) v
  inside o n k (bare p a y x q c) = tt
  inside o n k (alias p d x q t r ns c) = tt
  inside o n k (signal p x q ps c) = tt
  inside o n k (method f) = tt
  inside o n k (given x p ns v) = in_value n (suc k) v
  inside o n k (group x p ns ms) = in_members o (Some k) n (suc k) ms
  inside o n k (child c) = in_object n (suc k) c

  in_value : (n k : ℕ) (v : Value) → AreMembers (members_of_value n k v)
  in_value n k (value_object c) = in_object n k c
  in_value n k (value_list p os) = in_list n k os
  in_value n k (value_stmt s) = tt

  in_list : (n k : ℕ) (os : Objects) → AreMembers (members_of_list n k os)
  in_list n k (last_object c) = in_object n k c
  in_list n k (an_object c os) =
      both (members_with n k c) (members_of_list (n + count_object c) (k + rows_in_object c) os) (in_object n k c) (in_list (n + count_object c) (k + rows_in_object c) os)

-- ---- row after row

one_row : (p : Program) (u : ℕ) (t : Table) (before : List Units) (r : UnitRow) (x : AMember) → part_at t r.row.node ≡ of_member x false → Says t x r.member
    → written_in t before r.row.first r.member ≡ member_of before r.row.first (part_at t r.row.node)
one_row p u t before r x e s = s.same before r.row.first ∙ ap (member_of before r.row.first) (sym e)

pub row_after_row : (p : Program) (u : ℕ) (t : Table) (paths : List (List Units)) (rows : List UnitRow) → AreMembers (map (member_entry t) (map row_of rows)) → ReadsMembers t (map row_of rows) (map member_of_row rows)
    → SaysKinds p u t rows → RowsSay p u t paths rows (rows_behind paths (map (member_entry t) (map row_of rows)))
row_after_row p u t paths [] m r k = tt
row_after_row p u t paths (x ∷ rows) m r k =
    let says = r.0 m.0.0 m.0.1 in
    let before = path_at paths x.row.group in (
      record { object = refl; member = one_row p u t before x m.0.0 m.0.1 says; kind = k.0 },
      subst (λ ns. RowsSay p u t (paths ++ (before ++ added_by x.member) ∷ []) rows (rows_behind (paths ++ (before ++ ns) ∷ []) (map (member_entry t) (map row_of rows))))
          (says.adds ∙ ap names_added (sym m.0.1)) (row_after_row p u t (paths ++ (before ++ added_by x.member) ∷ []) rows m.1 r.1 k.1),
    )

pub members_there : (ws : List WrittenObject) (o : ℕ) → (unwrap_or (slice_get ws o) no_object).members ≡ members_at ws o
members_there ws o = by_object (slice_get ws o)
  where
    by_object : (y : Option WrittenObject) → (unwrap_or y no_object).members ≡ unwrap_or (option_map (λ w. w.members) y) []
    by_object None = refl
    by_object (Some w) = refl

pub tree_says : (p : Program) (u : ℕ) (file : File) (t : Table) (objects : List ObjectRow) (rows : List UnitRow) (bases : List TypeRef) (unit : UnitNames)
    → (a : AreRows t objects (map row_of rows)) → unit_at p u ≡ unit_of file (is_document (document a.imports a.root))
    → ReadsMembers t (map row_of rows) (map member_of_row rows) → SaysKinds p u t rows → unit.objects.items ≡ rows_added 0 [] rows (map nothing_declared bases)
    → ((o : ℕ) (b : TypeRef) → slice_get bases o ≡ Some b → b ≡ type_of_object p u o) → UnitSays p u unit
tree_says p u file t objects rows bases unit a e r k b types =
    let all : rows_behind [] (map (member_entry t) (map row_of rows)) ≡ (unit_at p u).rows =
    ap (rows_behind []) a.all_members ∙ whole_paths a.root ∙ ap (λ (v : AUnit). v.rows) (sym e) in
    record {
      tree = t;
      bases = bases;
      rows = rows;
      built = b;
      says = subst (λ ws. RowsSay p u t [] rows ws) all
          (row_after_row p u t [] rows (subst AreMembers (sym a.all_members) (in_object 0 0 a.root)) r k);
      members = λ o.
          ap (λ (v : AUnit). (unwrap_or (slice_get v.objects o) no_object).members) e ∙ members_there (objects_of as_root 0 a.root) o ∙ members_by_rows a.root o ∙
          ap (λ (v : AUnit). members_of_object o v.rows) (sym e);
      types = types;
    }
