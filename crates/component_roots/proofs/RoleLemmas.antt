-- What the rows of a tree say that the objects of its document are written as.
use Rattle.std.proofs.Common.{◌≡◌, ◌∙◌, ap, sym, refl, subst, ℕ, zero, suc, ◌+◌, ◌<◌, Bool, true, false, List, [], ◌∷◌, ◌++◌, length, map, Option, Some, None, is_some}
use Rattle.std.specs.Prelude.{slice_get}
use Rattle.std.specs.Option.{unwrap_or}
use Rattle.std.proofs.lemmas.Bool.{false≢true}
use Rattle.qml_syntax.specs.Tree.{Units, TypeName, function, document, object, Member as AMember, id, property, bare, alias, signal, method, given, group, child}
use Rattle.qml_syntax.specs.Nodes.{of_member, Table}
use Rattle.program_names.specs.Written.{WrittenObject, WrittenMember, a_property, a_value, a_child, WrittenAs, as_root, as_child, as_value, member_from}
use Rattle.program_names.specs.Reading.{File, is_document}
use Rattle.program_names.specs.Loaded.{Program, Unit as AUnit, unit_of, unit_at, object_at, no_object}
use Rattle.document_rows.specs.declared.rows.ObjectRow.{ObjectRow}
use Rattle.document_rows.specs.declared.rows.MemberRow.{MemberRow}
use Rattle.document_rows.specs.Entries.{MemberEntry, members_with, member_entry, object_entry, AreRows}
use Rattle.document_rows.specs.WholePaths.{names_added, path_at}
use Rattle.document_rows.specs.WrittenObjects.{Placed, placed_behind, role_in, role_of_entry, role_by, typed_by, typed}
use Rattle.document_rows.proofs.RoleLemmas.{objects_by_rows}
use Rattle.document_members.specs.declared.member.Member.{Member}
use Rattle.document_members.specs.declared.member.Member.TheVariants as m
use Rattle.document_members.specs.Members.{written_in, Says, ReadsMember, ReadsMembers}
use Rattle.program_tables.specs.declared.names.UnitNames.{UnitNames}
use Rattle.program_tables.specs.declared.building.UnitRow.{UnitRow}
use Rattle.program_tables.specs.RowsSay.{row_of, member_of_row}
use Rattle.program_tables.specs.Stands.{is_there}
use Rattle.program_tables.proofs.TreeLemmas.{AreMembers, in_object}
use Rattle.component_roots.specs.Deciding.{SaysRole, SaysRow, ObjectSays, ObjectsSay}

none_some : {A : Type 0} {X : Type 0} (x : A) → Path (Option A) None (Some x) → X
none_some x e = absurd (false≢true (ap is_some e))

-- ---- each entry is a member's

member_at : (es : List MemberEntry) → AreMembers es → (k : ℕ) (e : MemberEntry) → slice_get es k ≡ Some e → (x : AMember) × (e.part ≡ of_member x false)
member_at [] h k e i = none_some e i
member_at (y ∷ es) h zero e i = (h.0.0, sym (ap (λ v. (unwrap_or v e).part) i) ∙ h.0.1)
member_at (y ∷ es) h (suc k) e i = member_at es h.1 k e i

-- ---- what is read of a row says its role

abbrev is_given_property : WrittenMember → Bool
is_given_property (a_property q a k n at (Some v)) = true
is_given_property _ = false

abbrev is_value : WrittenMember → Bool
is_value (a_value at path v) = true
is_value _ = false

abbrev is_child : WrittenMember → Bool
is_child (a_child at n) = true
is_child _ = false

abbrev path_in : WrittenMember → List Units
path_in (a_property q a k n at v) = n ∷ []
path_in (a_value at path v) = path
path_in _ = []

wrong : {X : Type 0} (f : WrittenMember → Bool) (y z : WrittenMember) → y ≡ z → f y ≡ true → f z ≡ false → X
wrong f y z e i j = absurd (false≢true (sym j ∙ sym (ap f e) ∙ i))

of_property : (o : ℕ) (y : WrittenMember) (x : AMember) → is_given_property y ≡ true → y ≡ member_from [] 0 x → (before : List Units) → role_in o before (of_member x false) ≡ as_value o (path_in y)
of_property o y (id p name q c) i e = wrong is_given_property y (member_from [] 0 (id p name q c)) e i refl
of_property o y (property p a k name q v) i e = λ before. sym (ap (λ z. as_value o (path_in z)) e)
of_property o y (bare p a k name q c) i e = wrong is_given_property y (member_from [] 0 (bare p a k name q c)) e i refl
of_property o y (alias p d name q t r ts c) i e = wrong is_given_property y (member_from [] 0 (alias p d name q t r ts c)) e i refl
of_property o y (signal p name q ps c) i e = wrong is_given_property y (member_from [] 0 (signal p name q ps c)) e i refl
of_property o y (method (function p name q ps k ss)) i e = wrong is_given_property y (member_from [] 0 (method (function p name q ps k ss))) e i refl
of_property o y (given name p ns v) i e = wrong is_given_property y (member_from [] 0 (given name p ns v)) e i refl
of_property o y (group name p ns ms) i e = wrong is_given_property y (member_from [] 0 (group name p ns ms)) e i refl
of_property o y (child c) i e = wrong is_given_property y (member_from [] 0 (child c)) e i refl

of_value : (o : ℕ) (y : WrittenMember) (x : AMember) → is_value y ≡ true → y ≡ member_from [] 0 x → role_in o [] (of_member x false) ≡ as_value o (path_in y)
of_value o y (id p name q c) i e = wrong is_value y (member_from [] 0 (id p name q c)) e i refl
of_value o y (property p a k name q v) i e = wrong is_value y (member_from [] 0 (property p a k name q v)) e i refl
of_value o y (bare p a k name q c) i e = wrong is_value y (member_from [] 0 (bare p a k name q c)) e i refl
of_value o y (alias p d name q t r ts c) i e = wrong is_value y (member_from [] 0 (alias p d name q t r ts c)) e i refl
of_value o y (signal p name q ps c) i e = wrong is_value y (member_from [] 0 (signal p name q ps c)) e i refl
of_value o y (method (function p name q ps k ss)) i e = wrong is_value y (member_from [] 0 (method (function p name q ps k ss))) e i refl
of_value o y (given name p ns v) i e = sym (ap (λ z. as_value o (path_in z)) e)
of_value o y (group name p ns ms) i e = wrong is_value y (member_from [] 0 (group name p ns ms)) e i refl
of_value o y (child c) i e = wrong is_value y (member_from [] 0 (child c)) e i refl

of_child : (o : ℕ) (y : WrittenMember) (x : AMember) → is_child y ≡ true → y ≡ member_from [] 0 x → (before : List Units) → role_in o before (of_member x false) ≡ as_child o
of_child o y (id p name q c) i e = wrong is_child y (member_from [] 0 (id p name q c)) e i refl
of_child o y (property p a k name q v) i e = wrong is_child y (member_from [] 0 (property p a k name q v)) e i refl
of_child o y (bare p a k name q c) i e = wrong is_child y (member_from [] 0 (bare p a k name q c)) e i refl
of_child o y (alias p d name q t r ts c) i e = wrong is_child y (member_from [] 0 (alias p d name q t r ts c)) e i refl
of_child o y (signal p name q ps c) i e = wrong is_child y (member_from [] 0 (signal p name q ps c)) e i refl
of_child o y (method (function p name q ps k ss)) i e = wrong is_child y (member_from [] 0 (method (function p name q ps k ss))) e i refl
of_child o y (given name p ns v) i e = wrong is_child y (member_from [] 0 (given name p ns v)) e i refl
of_child o y (group name p ns ms) i e = wrong is_child y (member_from [] 0 (group name p ns ms)) e i refl
of_child o y (child c) i e = λ before. refl

role_said : (t : Table) (o : ℕ) (before : List Units) (g : Option ℕ) (y : Member) (x : AMember) → (g ≡ None → before ≡ []) → Says t x y → SaysRole (role_in o before (of_member x false)) o g y
role_said t o before g (m.Property q a k n at (Some v)) x h s = of_property o (written_in t [] 0 (m.Property q a k n at (Some v))) x refl (s.same [] 0) before
role_said t o before g (m.Property q a k n at None) x h s = tt
role_said t o before None (m.Given path value) x h s =
    ap (λ b. role_in o b (of_member x false)) (h refl) ∙ of_value o (written_in t [] 0 (m.Given path value)) x refl (s.same [] 0)
role_said t o before (Some k) (m.Given path value) x h s = tt
role_said t o before g (m.Child c) x h s = of_child o (written_in t [] 0 (m.Child c)) x refl (s.same [] 0) before
role_said t o before g (m.Id w n at) x h s = tt
role_said t o before g (m.Alias q b n at target) x h s = tt
role_said t o before g (m.Signal q n at names) x h s = tt
role_said t o before g (m.Method q f n at) x h s = tt
role_said t o before g (m.Group path) x h s = tt

-- ---- places

placed_there : (paths : List (List Units)) (es : List MemberEntry) (k : ℕ) (e : MemberEntry) → slice_get es k ≡ Some e
    → (others : List (List Units)) × (slice_get (placed_behind paths es) k ≡ Some (path_at others e.group, e))
placed_there paths [] k e i = none_some e i
placed_there paths (y ∷ es) zero e i = (paths, ap (λ v. Some (path_at paths (unwrap_or v e).group, unwrap_or v e)) i)
placed_there paths (y ∷ es) (suc k) e i = placed_there (paths ++ (path_at paths y.group ++ names_added y.part) ∷ []) es k e i

map_there : {A B : Type 0} (f : A → B) (xs : List A) (k : ℕ) (x : A) → slice_get xs k ≡ Some x → slice_get (map f xs) k ≡ Some (f x)
map_there f [] k x e = none_some x e
map_there f (y ∷ xs) zero x e = ap (λ v. Some (f (unwrap_or v x))) e
map_there f (y ∷ xs) (suc k) x e = map_there f xs k x e

map_long : {A B : Type 0} (f : A → B) (xs : List A) → length (map f xs) ≡ length xs
map_long f [] = refl
map_long f (x ∷ xs) = ap suc (map_long f xs)

read_at : (t : Table) (rs : List MemberRow) (ms : List Member) → ReadsMembers t rs ms → (k : ℕ) (r : MemberRow) (y : Member) → slice_get rs k ≡ Some r → slice_get ms k ≡ Some y → ReadsMember t r.node y
read_at t [] [] h k r y i j = none_some r i
read_at t [] (n ∷ ms) h k r y i j = absurd h
read_at t (q ∷ rs) [] h k r y i j = absurd h
read_at t (q ∷ rs) (n ∷ ms) h zero r y i j = subst (λ z. ReadsMember t r.node z) (ap (λ v. unwrap_or v y) j) (subst (λ (z : MemberRow). ReadsMember t z.node n) (ap (λ v. unwrap_or v r) i) h.0)
read_at t (q ∷ rs) (n ∷ ms) h (suc k) r y i j = read_at t rs ms h.1 k r y i j

abbrev role_of : Option (TypeName × WrittenAs) → WrittenAs
role_of None = as_root
role_of (Some x) = x.1

role_there : (ws : List WrittenObject) (o : ℕ) → (unwrap_or (slice_get ws o) no_object).role ≡ role_of (slice_get (map typed ws) o)
role_there [] o = refl
role_there (w ∷ ws) zero = refl
role_there (w ∷ ws) (suc o) = role_there ws o

module _ (p : Program) (us : List UnitNames) (d : ℕ) (file : File) (t : Table) (objects : List ObjectRow) (rows : List UnitRow) (all : AreRows t objects (map row_of rows))
    (same : unit_at p d ≡ unit_of file (is_document (document all.imports all.root))) (read : ReadsMembers t (map row_of rows) (map member_of_row rows)) where
  abbrev placed : List Placed
  placed = placed_behind [] (map (member_entry t) (map row_of rows))

  all_typed : map (typed_by placed) (map (object_entry t) objects) ≡ map typed (unit_at p d).objects
  all_typed =
      ap (λ es. map (typed_by (placed_behind [] es)) (map (object_entry t) objects)) all.all_members ∙
      ap (map (typed_by (placed_behind [] (members_with 0 0 all.root)))) all.all_objects ∙ objects_by_rows all.root ∙ ap (λ (u : AUnit). map typed u.objects) (sym same)

  role_is : (o : ℕ) (x : ObjectRow) → slice_get objects o ≡ Some x → (object_at p d o).role ≡ role_by placed x.row
  role_is o x i =
      role_there (unit_at p d).objects o ∙ ap (λ xs. role_of (slice_get xs o)) (sym all_typed) ∙
      ap role_of (map_there (typed_by placed) (map (object_entry t) objects) o (object_entry t x) (map_there (object_entry t) objects o x i))

  row_says : (o k : ℕ) (r : UnitRow) → slice_get rows k ≡ Some r → (object_at p d o).role ≡ role_by placed (Some k) → SaysRow p d o r
  row_says o k r i e =
      let entry = member_entry t r.row in
      let there : slice_get (map (member_entry t) (map row_of rows)) k ≡ Some entry = map_there (member_entry t) (map row_of rows) k r.row (map_there row_of rows k r i) in
      let place = placed_there [] (map (member_entry t) (map row_of rows)) k entry there in
      let x = member_at (map (member_entry t) (map row_of rows)) (subst AreMembers (sym all.all_members) (in_object 0 0 all.root)) k entry there in
      let says = read_at t (map row_of rows) (map member_of_row rows) read k r.row r.member (map_there row_of rows k r i) (map_there member_of_row rows k r i) x.0 x.1 in
      subst (λ z. SaysRole z r.row.object r.row.group r.member)
      (ap (role_in r.row.object (path_at place.0 r.row.group)) (sym x.1) ∙ sym (ap role_of_entry place.1) ∙ sym e)
      (role_said t r.row.object (path_at place.0 r.row.group) r.row.group r.member x.0 (λ g. ap (path_at place.0) g) says)

  pub objects_say : ((o : ℕ) → o < length objects → is_there us d o ≡ true) → ((k : ℕ) (r : UnitRow) → slice_get rows k ≡ Some r → is_there us d r.row.object ≡ true) → ObjectsSay p us d rows objects
  objects_say here there = record {
    long = many;
    there = λ o h. here o (subst (λ n. o < n) (sym many) h);
    says = λ o x i. by_row o x.row (role_is o x i);
  }
    where
      many : length objects ≡ length (unit_at p d).objects
      many =
          sym (map_long (object_entry t) objects) ∙ sym (map_long (typed_by placed) (map (object_entry t) objects)) ∙ ap length all_typed ∙ map_long typed (unit_at p d).objects

      by_row : (o : ℕ) (row : Option ℕ) → (object_at p d o).role ≡ role_by placed row → ObjectSays p us d rows o row
      by_row o None e = e
      by_row o (Some k) e = λ r i. (row_says o k r i e, there k r i)
