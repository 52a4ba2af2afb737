-- What the rows of a document add to one object is what its members declare.
use Rattle.std.proofs.Common.{◌≡◌, ◌∙◌, ap, sym, refl, subst, ℕ, zero, suc, ◌+◌, arith, Bool, true, false, List, [], ◌∷◌, ◌++◌, length, map, Option, Some, None, is_some}
use Rattle.std.specs.Option.{option_map, option_or, option_and_then, unwrap_or}
use Rattle.std.specs.Prelude.{if◌then◌else◌, nat_eq, slice_get, ◌||◌}
use Rattle.std.specs.Str.{bytes_eq}
use Rattle.std.proofs.lemmas.Bool.Decides.{nat_tests}
use Rattle.std.proofs.lemmas.List.{map-append}
use Rattle.qml_base.specs.declared.numbers.Place.{Place}
use Rattle.qml_syntax.specs.Places.{part_at}
use Rattle.name_table.specs.Named.{under, put}
use Rattle.qml_syntax.specs.Tree.{Units, Kind}
use Rattle.qml_syntax.specs.declared.contextual.Adjective.{Adjective}
use Rattle.qml_syntax.specs.declared.contextual.Adjective.TheVariants as adjective
use Rattle.qml_syntax.specs.Nodes.{Table}
use Rattle.qml_base.specs.declared.numbers.UnitNo.{UnitNo}
use Rattle.std.proofs.lemmas.Bool.{false≢true}
use Rattle.qml_types.specs.declared.kind.TypeRef.{TypeRef}
use Rattle.qml_types.specs.declared.kind.TypeRef.TheVariants.{Document as OfDocument}
use Rattle.program_names.specs.Names.{changed}
use Rattle.program_names.specs.Written.{WrittenMember, WrittenValue, a_property, an_id, an_alias, a_signal, a_function, OwnedMember}
use Rattle.program_names.specs.Loaded.{Program, unit_at, object_at, type_of_object, kind_named}
use Rattle.program_names.specs.Layers.{DefaultProperty, of_object, cells_of_layer, own_names, NameMeaning, a_cell, a_signal_of, a_function_of, an_alias_of, access_of, meaning_in, names_of_member, cells_of_member, names_of_members, cells_of_members}
use Rattle.document_rows.specs.WholePaths.{path_at}
use Rattle.document_rows.specs.WrittenObjects.{kept, members_of_object}
use Rattle.document_members.specs.declared.member.Member.{Member}
use Rattle.document_members.specs.declared.member.Member.TheVariants as m
use Rattle.document_members.specs.Members.{names_of, value_at, written_in, added_by}
use Rattle.document_members.specs.Parts.{kind_in}
use Rattle.document_members.specs.Parts as members
use Rattle.program_tables.specs.declared.names.Declared.{Declared}
use Rattle.program_tables.specs.declared.names.Declared.TheVariants as d
use Rattle.program_tables.specs.declared.names.ObjectNames.{ObjectNames}
use Rattle.program_tables.specs.declared.names.UnitNames.{UnitNames}
use Rattle.program_tables.specs.declared.building.UnitRow.{UnitRow}
use Rattle.program_tables.specs.Walk.{object_in, meaning_of}
use Rattle.program_tables.specs.Stands.{meant, member_at, parameters_in, function_in, target_in, is_there, default_in, last_default, MeansDefault, Stands}
use Rattle.program_tables.specs.Building.{nothing_declared, is_default, with_name, declared, is_group, is_inside, changed_at, row_added, rows_added}
use Rattle.program_tables.specs.RowsSay.{SaysKind, SaysRow, RowsSay, UnitSays}
use Rattle.program_tables.proofs.NameLemmas.{in_both, under_put, or_assoc, eq_either_way}
use Rattle.program_tables.proofs.GroupLemmas.{is_filled, inside_alike, filled_by}
use Rattle.program_tables.proofs.MeaningLemmas.{named}

-- ---- one object

abbrev changes_object : Bool → Bool → (ObjectNames → ObjectNames) → ObjectNames → ObjectNames
changes_object inside own f x = if inside then x else (if own then f x else x)

abbrev object_added : ℕ → List Bool → List UnitRow → ℕ → ObjectNames → ObjectNames
object_added i grouping [] o x = x
object_added i grouping (r ∷ rest) o x =
    object_added (suc i) (grouping ++ (is_inside grouping r.row.group || is_group r.member) ∷ []) rest o
    (changes_object (is_inside grouping r.row.group) (nat_eq r.row.object o) (declared i r.kind r.member) x)

changed_there : (xs : List ObjectNames) (k o : ℕ) (f : ObjectNames → ObjectNames) → slice_get (changed_at xs k f) o ≡ option_map (λ x. if nat_eq k o then f x else x) (slice_get xs o)
changed_there [] k o f = refl
changed_there (x ∷ xs) zero zero f = refl
changed_there (x ∷ xs) zero (suc o) f = kept_all (slice_get xs o)
  where
    kept_all : (y : Option ObjectNames) → y ≡ option_map (λ x. if nat_eq 0 (suc o) then f x else x) y
    kept_all None = refl
    kept_all (Some y) = ap Some (ap (λ b. if b then f y else y) (sym (let e : nat_eq 0 (suc o) ≡ false = grind (arith, nat_tests) in e)))
changed_there (x ∷ xs) (suc k) zero f = ap Some (ap (λ b. if b then f x else x) (sym (let e : nat_eq (suc k) 0 ≡ false = grind (arith, nat_tests) in e)))
changed_there (x ∷ xs) (suc k) (suc o) f =
    changed_there xs k o f ∙ ap (λ b. option_map (λ x. if b then f x else x) (slice_get xs o)) (let e : nat_eq k o ≡ nat_eq (suc k) (suc o) = grind (arith, nat_tests) in e)

row_there : (inside : Bool) (i : ℕ) (r : UnitRow) (xs : List ObjectNames) (o : ℕ)
    → slice_get (row_added inside i r xs) o ≡ option_map (changes_object inside (nat_eq r.row.object o) (declared i r.kind r.member)) (slice_get xs o)
row_there true i r xs o = same (slice_get xs o)
  where
    same : (y : Option ObjectNames) → y ≡ option_map (λ x. x) y
    same None = refl
    same (Some y) = refl
row_there false i r xs o = changed_there xs r.row.object o (declared i r.kind r.member)

pub added_there : (i : ℕ) (grouping : List Bool) (rows : List UnitRow) (xs : List ObjectNames) (o : ℕ)
    → slice_get (rows_added i grouping rows xs) o ≡ option_map (object_added i grouping rows o) (slice_get xs o)
added_there i grouping [] xs o = same (slice_get xs o)
  where
    same : (y : Option ObjectNames) → y ≡ option_map (λ x. x) y
    same None = refl
    same (Some y) = refl
added_there i grouping (r ∷ rest) xs o =
    added_there (suc i) (grouping ++ (is_inside grouping r.row.group || is_group r.member) ∷ []) rest (row_added (is_inside grouping r.row.group) i r xs) o ∙
    ap (option_map (object_added (suc i) (grouping ++ (is_inside grouping r.row.group || is_group r.member) ∷ []) rest o)) (row_there (is_inside grouping r.row.group) i r xs o) ∙
    twice (slice_get xs o)
  where
    twice : (y : Option ObjectNames) → option_map (object_added (suc i) (grouping ++ (is_inside grouping r.row.group || is_group r.member) ∷ []) rest o)
        (option_map (changes_object (is_inside grouping r.row.group) (nat_eq r.row.object o) (declared i r.kind r.member)) y) ≡ option_map (object_added i grouping (r ∷ rest) o) y
    twice None = refl
    twice (Some y) = refl

-- ---- what one row adds

abbrev view : Program → ℕ → ℕ → Option Declared → Option NameMeaning
view p u o x = option_map (meant p) (option_map (meaning_of u o) x)

none_more : (x : Option NameMeaning) → x ≡ option_or x None
none_more None = refl
none_more (Some x) = refl

view_or : (p : Program) (u o : ℕ) (a b : Option Declared) → view p u o (option_or a b) ≡ option_or (view p u o a) (view p u o b)
view_or p u o None b = refl
view_or p u o (Some a) b = refl

put_means : (p : Program) (u o : ℕ) (names : List (Units × Declared)) (n : Units) (x : Declared) (at : Place) (what : NameMeaning) (name : Units) → meant p (meaning_of u o x) ≡ what
    → view p u o (under (put names n x) name) ≡ option_or (view p u o (under names name)) (meaning_in (named n at what ∷ []) name)
put_means p u o names n x at what name e =
    ap (view p u o) (under_put names n x name) ∙ view_or p u o (under names name) (if bytes_eq name n then Some x else None) ∙
    ap (λ y. option_or (view p u o (under names name)) y) (one (bytes_eq name n) ∙ ap (λ b. if b then Some what else None) (eq_either_way name n))
  where
    one : (b : Bool) → view p u o (if b then Some x else None) ≡ (if b then Some what else None)
    one true = ap Some e
    one false = refl

-- a row as what it adds to an object: names, and cells
record Adds (p : Program) (u o : ℕ) (x y : ObjectNames) (ms : List WrittenMember) : Type 0 where
  names : (name : Units) → view p u o (under y.names name) ≡ option_or (view p u o (under x.names name)) (meaning_in (names_of_members p u o x.cells ms) name)
  cells : y.cells ≡ x.cells + cells_of_members ms
  default : (before : Option DefaultProperty) → MeansDefault p u x.default before → MeansDefault p u y.default (option_or (last_default ms) before)

no_more_cells : (a : ℕ) → a ≡ a + 0
no_more_cells a = omega arith

nothing_added : (p : Program) (u o : ℕ) (x : ObjectNames) → Adds p u o x x []
nothing_added p u o x = record { names = λ name. none_more (view p u o (under x.names name)); cells = no_more_cells x.cells; default = λ before h. h }

-- a member that declares nothing
adds_no_name : (p : Program) (u o : ℕ) (x : ObjectNames) (w : WrittenMember) → ((place : ℕ) → names_of_member p u o place w ≡ []) → cells_of_member w ≡ 0 → Path (Option DefaultProperty) (default_in (Some w)) None → Adds p u o x x (w ∷ [])
adds_no_name p u o x w n c d = record {
  names = λ name. none_more (view p u o (under x.names name)) ∙ ap (λ ns. option_or (view p u o (under x.names name)) (meaning_in (ns ++ []) name)) (sym (n x.cells));
  cells = no_more_cells x.cells ∙ ap (λ k. x.cells + (k + 0)) (sym c);
  default = λ before h. subst (λ v. MeansDefault p u x.default (option_or v before)) (sym d) h;
}

one_name : (p : Program) (u o : ℕ) (x : ObjectNames) (n : Units) (y : Declared) (at : Place) (what : NameMeaning) (w : WrittenMember) → meant p (meaning_of u o y) ≡ what
    → ((place : ℕ) → names_of_member p u o place w ≡ named n at what ∷ [])
    → (name : Units) → view p u o (under (put x.names n y) name) ≡ option_or (view p u o (under x.names name)) (meaning_in (names_of_members p u o x.cells (w ∷ [])) name)
one_name p u o x n y at what w e h name =
    put_means p u o x.names n y at what name e ∙ ap (λ ns. option_or (view p u o (under x.names name)) (meaning_in (ns ++ []) name)) (sym (h x.cells))

adds_one_name : (p : Program) (u o : ℕ) (x : ObjectNames) (n : Units) (y : Declared) (at : Place) (what : NameMeaning) (w : WrittenMember) → meant p (meaning_of u o y) ≡ what
    → ((place : ℕ) → names_of_member p u o place w ≡ named n at what ∷ []) → cells_of_member w ≡ 0 → Path (Option DefaultProperty) (default_in (Some w)) None
    → Adds p u o x (with_name n y x) (w ∷ [])
adds_one_name p u o x n y at what w e h c d = record {
  names = one_name p u o x n y at what w e h;
  cells = no_more_cells x.cells ∙ ap (λ k. x.cells + (k + 0)) (sym c);
  default = λ before g. subst (λ v. MeansDefault p u x.default (option_or v before)) (sym d) g;
}

alias_default : (p : Program) (u i : ℕ) (q : Place) (b : Bool) (n : Units) (at : Place) (target : List Units) (r : Place) (old : Option ℕ) (before : Option DefaultProperty)
    → member_at p u i ≡ Some (an_alias q b n at target r) → MeansDefault p u old before
    → MeansDefault p u (if b then Some i else old) (option_or (default_in (Some (an_alias q b n at target r))) before)
alias_default p u i q true n at target r old before e h = ap default_in e
alias_default p u i q false n at target r old before e h = h

property_default : (p : Program) (u i : ℕ) (q : Place) (a : Adjective) (k : Kind) (n : Units) (at : Place) (v : Option WrittenValue) (old : Option ℕ) (before : Option DefaultProperty)
    → member_at p u i ≡ Some (a_property q a k n at v) → MeansDefault p u old before
    → MeansDefault p u (if is_default a then Some i else old) (option_or (default_in (Some (a_property q a k n at v))) before)
property_default p u i q adjective.Default k n at v old before e h = ap default_in e
property_default p u i q _ k n at v old before e h = h

-- inside a group nothing is declared
inside_group : (p : Program) (u o place : ℕ) (t : Table) (n : Units) (ns : List Units) (first : ℕ) (x : Member)
    → (names_of_member p u o place (written_in t (n ∷ ns) first x) ≡ []) × (cells_of_member (written_in t (n ∷ ns) first x) ≡ 0) ×
    Path (Option DefaultProperty) (default_in (Some (written_in t (n ∷ ns) first x))) None
inside_group p u o place t n ns first (m.Id w name at) = (refl, refl, refl)
inside_group p u o place t n ns first _ = (refl, refl, refl)

-- the member of a row that isn't in a group
outside : (p : Program) (u o : ℕ) (t : Table) (i : ℕ) (r : UnitRow) (x : ObjectNames) (y : Member) → SaysKind p u t y r.kind
    → member_at p u i ≡ Some (written_in t [] r.row.first y) → Adds p u o x (declared i r.kind y x) (written_in t [] r.row.first y ∷ [])
outside p u o t i r x (m.Property q a k n at v) kind there = record {
  names = λ name.
      put_means p u o (put x.names n (d.Cell x.cells r.kind (access_of a))) (changed n) d.Changed at (a_signal_of []) name refl ∙
      ap (λ z. option_or z (meaning_in (named (changed n) at (a_signal_of []) ∷ []) name))
      (put_means p u o x.names n (d.Cell x.cells r.kind (access_of a)) at (a_cell x.cells (kind_named p u (kind_in (part_at t k))) (access_of a)) name (ap (λ z. a_cell x.cells z (access_of a)) kind)) ∙
      or_assoc (view p u o (under x.names name)) (meaning_in (named n at (a_cell x.cells (kind_named p u (kind_in (part_at t k))) (access_of a)) ∷ []) name)
      (meaning_in (named (changed n) at (a_signal_of []) ∷ []) name) ∙
      ap (λ z. option_or (view p u o (under x.names name)) z)
      (sym (in_both (named n at (a_cell x.cells (kind_named p u (kind_in (part_at t k))) (access_of a)) ∷ []) (named (changed n) at (a_signal_of []) ∷ []) name));
  cells = refl;
  default = λ before h. property_default p u i q a (kind_in (part_at t k)) n at (option_map (value_at t r.row.first) v) x.default before there h;
}
outside p u o t i r x (m.Alias q b n at target) kind there = record {
  names = one_name p u o x n (d.Alias i) at (an_alias_of u o (names_of target)) (an_alias q b n at (names_of target) target.at) (ap (λ w. an_alias_of u o (target_in w)) there) (λ place. refl);
  cells = no_more_cells x.cells;
  default = λ before h. alias_default p u i q b n at (names_of target) target.at x.default before there h;
}
outside p u o t i r x (m.Signal q n at names) kind there =
    adds_one_name p u o x n (d.Signal i) at (a_signal_of names.items) (a_signal q n at names.items) (ap (λ w. a_signal_of (parameters_in w)) there) (λ place. refl) refl refl
outside p u o t i r x (m.Method q f n at) kind there =
    adds_one_name p u o x n (d.Function i) at (a_function_of u o (members.function_in (part_at t f))) (a_function q (members.function_in (part_at t f)) n at)
    (ap (λ w. a_function_of u o (function_in w)) there) (λ place. refl) refl refl
outside p u o t i r x (m.Id w n at) kind there = adds_no_name p u o x (an_id w n at) (λ place. refl) refl refl
outside p u o t i r x (m.Given path value) kind there = adds_no_name p u o x (written_in t [] r.row.first (m.Given path value)) (λ place. refl) refl refl
outside p u o t i r x (m.Group path) kind there = adds_no_name p u o x (written_in t [] r.row.first (m.Group path)) (λ place. refl) refl refl
outside p u o t i r x (m.Child c) kind there = adds_no_name p u o x (written_in t [] r.row.first (m.Child c)) (λ place. refl) refl refl

of_member : (p : Program) (u o : ℕ) (t : Table) (i : ℕ) (before : List Units) (r : UnitRow) (x : ObjectNames) → SaysKind p u t r.member r.kind
    → member_at p u i ≡ Some (written_in t before r.row.first r.member)
    → Adds p u o x (if is_filled before then x else declared i r.kind r.member x) (written_in t before r.row.first r.member ∷ [])
of_member p u o t i [] r x kind there = outside p u o t i r x r.member kind there
of_member p u o t i (n ∷ ns) r x kind there =
    adds_no_name p u o x (written_in t (n ∷ ns) r.row.first r.member) (λ place. (inside_group p u o place t n ns r.row.first r.member).0) (inside_group p u o 0 t n ns r.row.first r.member).1
    (inside_group p u o 0 t n ns r.row.first r.member).2

choose : (b own : Bool) (f : ObjectNames → ObjectNames) (x : ObjectNames) → own ≡ true → (if b then x else f x) ≡ changes_object b own f x
choose true own f x e = refl
choose false own f x e = ap (λ c. if c then f x else x) (sym e)

leave : (b own : Bool) (f : ObjectNames → ObjectNames) (x : ObjectNames) → own ≡ false → x ≡ changes_object b own f x
leave true own f x e = refl
leave false own f x e = ap (λ c. if c then f x else x) (sym e)

of_row : (p : Program) (u o : ℕ) (t : Table) (i : ℕ) (before : List Units) (b : Bool) (r : UnitRow) (w : OwnedMember) (x : ObjectNames) → SaysRow p u t before r w → b ≡ is_filled before
    → member_at p u i ≡ Some w.member → Adds p u o x (changes_object b (nat_eq r.row.object o) (declared i r.kind r.member) x) (kept o w)
of_row p u o t i before b r w x s e there = cases (nat_eq r.row.object o) refl
  where
    cases : (own : Bool) → nat_eq r.row.object o ≡ own → Adds p u o x (changes_object b (nat_eq r.row.object o) (declared i r.kind r.member) x) (kept o w)
    cases true h =
        subst (λ y. Adds p u o x y (kept o w))
        (ap (λ c. if c then x else declared i r.kind r.member x) (sym e) ∙ choose b (nat_eq r.row.object o) (declared i r.kind r.member) x h)
        (subst (λ ms. Adds p u o x (if is_filled before then x else declared i r.kind r.member x) ms)
        (ap (λ z. z ∷ []) s.member ∙ ap (λ c. if c then w.member ∷ [] else []) (sym (ap (λ k. nat_eq k o) (sym s.object) ∙ h)))
        (of_member p u o t i before r x s.kind (there ∙ ap Some (sym s.member))))
    cases false h =
        subst (λ y. Adds p u o x y (kept o w)) (leave b (nat_eq r.row.object o) (declared i r.kind r.member) x h)
        (subst (λ ms. Adds p u o x x ms) (ap (λ c. if c then w.member ∷ [] else []) (sym (ap (λ k. nat_eq k o) (sym s.object) ∙ h))) (nothing_added p u o x))

-- ---- one after another

sums : (a b c : ℕ) → (a + b) + c ≡ a + (b + c)
sums a b c = omega arith

assoc : {A : Type 0} (a b c : List A) → (a ++ b) ++ c ≡ a ++ (b ++ c)
assoc [] b c = refl
assoc (x ∷ a) b c = ap (λ xs. x ∷ xs) (assoc a b c)

nothing_before : (a : ℕ) → a ≡ 0 + a
nothing_before a = omega arith

cells_of_two : (a b : List WrittenMember) → cells_of_members (a ++ b) ≡ cells_of_members a + cells_of_members b
cells_of_two [] b = nothing_before (cells_of_members b)
cells_of_two (x ∷ a) b = ap (λ k. cells_of_member x + k) (cells_of_two a b) ∙ sym (sums (cells_of_member x) (cells_of_members a) (cells_of_members b))

names_of_two : (p : Program) (u o place : ℕ) (a b : List WrittenMember)
    → names_of_members p u o place (a ++ b) ≡ names_of_members p u o place a ++ names_of_members p u o (place + cells_of_members a) b
names_of_two p u o place [] b = ap (λ k. names_of_members p u o k b) (no_more_cells place)
names_of_two p u o place (x ∷ a) b =
    ap (λ ns. names_of_member p u o place x ++ ns)
    (names_of_two p u o (place + cells_of_member x) a b ∙ ap (λ k. names_of_members p u o (place + cells_of_member x) a ++ names_of_members p u o k b) (sums place (cells_of_member x) (cells_of_members a))) ∙
    sym (assoc (names_of_member p u o place x) (names_of_members p u o (place + cells_of_member x) a) (names_of_members p u o (place + (cells_of_member x + cells_of_members a)) b))

defaults_of_two : (a b : List WrittenMember) → last_default (a ++ b) ≡ option_or (last_default b) (last_default a)
defaults_of_two [] b = none_after (last_default b)
  where
    none_after : (x : Option DefaultProperty) → x ≡ option_or x None
    none_after None = refl
    none_after (Some x) = refl
defaults_of_two (x ∷ a) b = ap (λ v. option_or v (default_in (Some x))) (defaults_of_two a b) ∙ or_assoc (last_default b) (last_default a) (default_in (Some x))

then_adds : (p : Program) (u o : ℕ) (x y z : ObjectNames) (a b : List WrittenMember) → Adds p u o x y a → Adds p u o y z b → Adds p u o x z (a ++ b)
then_adds p u o x y z a b h g = record {
  names = λ name.
      g.names name ∙ ap (λ v. option_or v (meaning_in (names_of_members p u o y.cells b) name)) (h.names name) ∙
      or_assoc (view p u o (under x.names name)) (meaning_in (names_of_members p u o x.cells a) name) (meaning_in (names_of_members p u o y.cells b) name) ∙
      ap (λ v. option_or (view p u o (under x.names name)) v)
      (ap (λ k. option_or (meaning_in (names_of_members p u o x.cells a) name) (meaning_in (names_of_members p u o k b) name)) h.cells ∙
      sym (in_both (names_of_members p u o x.cells a) (names_of_members p u o (x.cells + cells_of_members a) b) name) ∙
      ap (λ ns. meaning_in ns name) (sym (names_of_two p u o x.cells a b)));
  cells = g.cells ∙ ap (λ k. k + cells_of_members b) h.cells ∙ sums x.cells (cells_of_members a) (cells_of_members b) ∙ ap (λ k. x.cells + k) (sym (cells_of_two a b));
  default = λ before e.
      subst (λ v. MeansDefault p u z.default v)
      (sym (or_assoc (last_default b) (last_default a) before) ∙ ap (λ v. option_or v before) (sym (defaults_of_two a b)))
      (g.default (option_or (last_default a) before) (h.default before e));
}

-- the rows of a document from one on
abbrev RowsFrom : Program → ℕ → ℕ → List OwnedMember → Type 0
RowsFrom p u i ws = (k : ℕ) → slice_get (unit_at p u).rows (i + k) ≡ slice_get ws k

one_on : (i k : ℕ) → suc i + k ≡ i + suc k
one_on i k = omega arith

all_rows : (p : Program) (u o : ℕ) (t : Table) (i : ℕ) (grouping : List Bool) (paths : List (List Units)) (rows : List UnitRow) (ws : List OwnedMember) (x : ObjectNames)
    → RowsSay p u t paths rows ws → grouping ≡ map is_filled paths → RowsFrom p u i ws → Adds p u o x (object_added i grouping rows o x) (members_of_object o ws)
all_rows p u o t i grouping paths [] [] x s e l = nothing_added p u o x
all_rows p u o t i grouping paths [] (w ∷ ws) x s e l = absurd s
all_rows p u o t i grouping paths (r ∷ rs) [] x s e l = absurd s
all_rows p u o t i grouping paths (r ∷ rs) (w ∷ ws) x s e l =
    let before = path_at paths r.row.group in
    let inside : is_inside grouping r.row.group ≡ is_filled before = ap (λ g. is_inside g r.row.group) e ∙ inside_alike paths r.row.group in
    then_adds p u o x (changes_object (is_inside grouping r.row.group) (nat_eq r.row.object o) (declared i r.kind r.member) x) _ (kept o w) (members_of_object o ws)
    (of_row p u o t i before (is_inside grouping r.row.group) r w x s.0 inside (ap (option_map (λ (q : OwnedMember). q.member)) (ap (slice_get (unit_at p u).rows) (no_more_cells i) ∙ l 0)))
    (all_rows p u o t (suc i) (grouping ++ (is_inside grouping r.row.group || is_group r.member) ∷ []) (paths ++ (before ++ added_by r.member) ∷ []) rs ws
    (changes_object (is_inside grouping r.row.group) (nat_eq r.row.object o) (declared i r.kind r.member) x) s.1
    (ap (λ g. g ++ (is_inside grouping r.row.group || is_group r.member) ∷ []) e ∙
    ap (λ b. map is_filled paths ++ b ∷ []) (ap (λ b. b || is_group r.member) inside ∙ sym (filled_by before r.member)) ∙
    sym (map-append is_filled paths ((before ++ added_by r.member) ∷ [])))
    (λ k. ap (slice_get (unit_at p u).rows) (one_on i k) ∙ l (suc k)))

-- ---- all objects of a document

base_kept : (i : ℕ) (grouping : List Bool) (rows : List UnitRow) (o : ℕ) (x : ObjectNames) → (object_added i grouping rows o x).base ≡ x.base
base_kept i grouping [] o x = refl
base_kept i grouping (r ∷ rest) o x =
    base_kept (suc i) (grouping ++ (is_inside grouping r.row.group || is_group r.member) ∷ []) rest o
    (changes_object (is_inside grouping r.row.group) (nat_eq r.row.object o) (declared i r.kind r.member) x) ∙
    by_change (is_inside grouping r.row.group) (nat_eq r.row.object o)
  where
    by_member : (y : Member) → (declared i r.kind y x).base ≡ x.base
    by_member (m.Property q a k n at v) = refl
    by_member _ = refl

    by_change : (b own : Bool) → (changes_object b own (declared i r.kind r.member) x).base ≡ x.base
    by_change true own = refl
    by_change false true = by_member r.member
    by_change false false = refl

got_base : (bases : List TypeRef) (o : ℕ) (f : ObjectNames → ObjectNames) (x : ObjectNames) → option_map f (slice_get (map nothing_declared bases) o) ≡ Some x
    → (b : TypeRef) × (slice_get bases o ≡ Some b) × (x ≡ f (nothing_declared b))
got_base [] o f x e = absurd (false≢true (ap is_some e))
got_base (b ∷ bases) zero f x e = (b, refl, sym (ap (λ y. unwrap_or y x) e))
got_base (b ∷ bases) (suc o) f x e = got_base bases o f x e

object_says : (p : Program) (u o : ℕ) (unit : UnitNames) (x : ObjectNames) (s : UnitSays p u unit) → slice_get unit.objects.items o ≡ Some x
    → (b : TypeRef) × (slice_get s.bases o ≡ Some b) × (x ≡ object_added 0 [] s.rows o (nothing_declared b))
object_says p u o unit x s e =
    got_base s.bases o (object_added 0 [] s.rows o) x
    (sym (added_there 0 [] s.rows (map nothing_declared s.bases) o) ∙ ap (λ xs. slice_get xs o) (sym s.built) ∙ e)

none_behind : (v : Option DefaultProperty) → option_or v None ≡ v
none_behind None = refl
none_behind (Some v) = refl

pub object_stands : (p : Program) (u o : ℕ) (unit : UnitNames) (x : ObjectNames) → UnitSays p u unit → slice_get unit.objects.items o ≡ Some x
    → (x.base ≡ type_of_object p u o) × (x.cells ≡ cells_of_layer p (of_object u o)) ×
    ((name : Units) → view p u o (under x.names name) ≡ meaning_in (own_names p u o) name) × MeansDefault p u x.default (last_default (object_at p u o).members)
object_stands p u o unit x s e =
    let y = object_says p u o unit x s e in
    let all = all_rows p u o s.tree 0 [] [] s.rows (unit_at p u).rows (nothing_declared y.0) s.says refl (λ k. ap (slice_get (unit_at p u).rows) (sym (nothing_before k))) in (
      ap (λ z. z.base) y.2 ∙ base_kept 0 [] s.rows o (nothing_declared y.0) ∙ s.types o y.0 y.1,
      ap (λ z. z.cells) y.2 ∙ all.cells ∙ sym (nothing_before (cells_of_members (members_of_object o (unit_at p u).rows))) ∙ ap cells_of_members (sym (s.members o)),
      (λ name. ap (λ z. view p u o (under z.names name)) y.2 ∙ all.names name ∙ ap (λ ms. meaning_in (names_of_members p u o 0 ms) name) (sym (s.members o))),
      subst (λ v. MeansDefault p u x.default v) (none_behind (last_default (members_of_object o (unit_at p u).rows)) ∙ ap last_default (sym (s.members o)))
          (subst (λ (v : ObjectNames). MeansDefault p u v.default (option_or (last_default (members_of_object o (unit_at p u).rows)) None)) (sym y.2) (all.default None tt)),
    )

-- an object of the tables is one of its document
of_its_unit : (us : List UnitNames) (u o : ℕ) (x : ObjectNames) → object_in us u o ≡ Some x → (unit : UnitNames) × (slice_get us u ≡ Some unit) × (slice_get unit.objects.items o ≡ Some x)
of_its_unit us u o x e = cases (slice_get us u) refl e
  where
    cases : (y : Option UnitNames) → slice_get us u ≡ y → option_and_then (λ (unit : UnitNames). slice_get unit.objects.items o) y ≡ Some x
        → (unit : UnitNames) × (slice_get us u ≡ Some unit) × (slice_get unit.objects.items o ≡ Some x)
    cases None h g = absurd (false≢true (ap is_some g))
    cases (Some unit) h g = (unit, h, g)

pub all_stand : (p : Program) (us : List UnitNames) → length us ≡ length p → ((u : ℕ) (unit : UnitNames) → slice_get us u ≡ Some unit → UnitSays p u unit)
    → ((u o : ℕ) (x : ObjectNames) (e : UnitNo) → object_in us u o ≡ Some x → x.base ≡ OfDocument e → is_there us e.0 0 ≡ true) → Stands p us
all_stand p us l says rooted = record {
  long = l;
  bases = λ u o x i. let y = of_its_unit us u o x i in (object_stands p u o y.0 x (says u y.0 y.1) y.2).0;
  cells = λ u o x i. let y = of_its_unit us u o x i in (object_stands p u o y.0 x (says u y.0 y.1) y.2).1;
  names = λ u o x i name. let y = of_its_unit us u o x i in (object_stands p u o y.0 x (says u y.0 y.1) y.2).2 name;
  defaults = λ u o x i. let y = of_its_unit us u o x i in (object_stands p u o y.0 x (says u y.0 y.1) y.2).3;
  rooted = rooted;
}
