-- The objects by the rows of a document.
use Rattle.std.proofs.Common.{◌≡◌, ◌∙◌, ap, sym, refl, subst, ℕ, suc, List, [], ◌∷◌, ◌++◌, map, flat_map, Option, Some, None}
use Rattle.qml_syntax.specs.Tree.{Member as AMember, id, property, bare, alias, signal, method, given, group, child, function}
use Rattle.qml_syntax.specs.Nodes.{of_member, Table}
use Rattle.qml_syntax.specs.Places.{part_at}
use Rattle.program_names.specs.declared.fault.Fault.{Fault}
use Rattle.program_names.specs.Written.{WrittenMember, a_property, a_value, a_child, member_from}
use Rattle.load_faults.specs.Faults.{Faults, first_from}
use Rattle.document_rows.specs.declared.rows.ObjectRow.{ObjectRow}
use Rattle.document_rows.specs.declared.rows.MemberRow.{MemberRow}
use Rattle.document_rows.specs.Entries.{members_with, object_entry, member_entry, AreRows}
use Rattle.document_members.specs.declared.member.Member.{Member}
use Rattle.document_members.specs.declared.member.Member.TheVariants as m
use Rattle.document_members.specs.Members.{written_in, Says, ReadsMembers}
use Rattle.program_tables.specs.declared.building.UnitRow.{UnitRow}
use Rattle.program_tables.specs.RowsSay.{row_of, member_of_row}
use Rattle.program_tables.proofs.TreeLemmas.{AreMembers, in_object}
use Rattle.member_objects.specs.Objects.{objects_in, numbers_of, by_rows, with_row, by_objects}
use Rattle.member_objects.proofs.EntryLemmas.{numbers_of_member, numbers_in, by_members, by_entries, tree_alike}

-- ---- one member

abbrev numbers_written : WrittenMember → List ℕ
numbers_written (a_property q a k n at (Some v)) = objects_in v
numbers_written (a_value at path v) = objects_in v
numbers_written (a_child at n) = n ∷ []
numbers_written _ = []

by_member : (n : ℕ) (x : AMember) → numbers_written (member_from [] n x) ≡ numbers_of_member n x
by_member n (id p name q c) = refl
by_member n (property p a k name q v) = refl
by_member n (bare p a k name q c) = refl
by_member n (alias p d name q t r ts c) = refl
by_member n (signal p name q ps c) = refl
by_member n (method (function p name q ps k ss)) = refl
by_member n (given name p ns v) = refl
by_member n (group name p ns ms) = refl
by_member n (child o) = refl

by_kept : (t : Table) (n : ℕ) (y : Member) → numbers_of t n y ≡ numbers_written (written_in t [] n y)
by_kept t n (m.Id w name at) = refl
by_kept t n (m.Property q a k name at None) = refl
by_kept t n (m.Property q a k name at (Some v)) = refl
by_kept t n (m.Alias q d name at target) = refl
by_kept t n (m.Signal q name at parameters) = refl
by_kept t n (m.Method q f name at) = refl
by_kept t n (m.Given path v) = refl
by_kept t n (m.Group path) = refl
by_kept t n (m.Child o) = refl

numbers_alike : (t : Table) (n : ℕ) (y : Member) (x : AMember) → Says t x y → numbers_of t n y ≡ numbers_of_member n x
numbers_alike t n y x s = by_kept t n y ∙ ap numbers_written (s.same [] n) ∙ by_member n x

-- ---- all rows

rows_alike : (t : Table) (f : ℕ → ℕ → Faults) (k : ℕ) (rows : List UnitRow) → ReadsMembers t (map row_of rows) (map member_of_row rows) → AreMembers (map (member_entry t) (map row_of rows))
    → by_rows t f k rows ≡ by_members f k (map (member_entry t) (map row_of rows))
rows_alike t f k [] h e = refl
rows_alike t f k (r ∷ rows) h e =
    ap (λ ns. flat_map (f k) ns ++ by_rows t f (suc k) rows)
    (numbers_alike t r.row.first r.member e.0.0 (h.0 e.0.0 e.0.1) ∙ ap (numbers_in r.row.first) (sym e.0.1)) ∙
    ap (λ xs. flat_map (f k) (numbers_in r.row.first (part_at t r.row.node)) ++ xs) (rows_alike t f (suc k) rows h.1 e.1)

objects_alike : (t : Table) (f : ℕ → ℕ → Faults) (o : ℕ) (objects : List ObjectRow) → by_entries f o (map (object_entry t) objects) ≡ by_objects f o objects
objects_alike t f o [] = refl
objects_alike t f o (x ∷ objects) = ap (λ xs. with_row f o x.row ++ xs) (objects_alike t f (suc o) objects)

pub told_alike : (t : Table) (objects : List ObjectRow) (rows : List UnitRow) → AreRows t objects (map row_of rows) → ReadsMembers t (map row_of rows) (map member_of_row rows)
    → (f : ℕ → ℕ → Faults) (kept : Option Fault) → first_from kept (by_rows t f 0 rows) ≡ first_from kept (by_objects f 0 objects)
told_alike t objects rows all read f kept =
    ap (first_from kept) (rows_alike t f 0 rows read (subst AreMembers (sym all.all_members) (in_object 0 0 all.root)) ∙ ap (by_members f 0) all.all_members) ∙
    tree_alike f all.root kept ∙
    ap (first_from kept) (ap (by_entries f 0) (sym all.all_objects) ∙ objects_alike t f 0 objects)
