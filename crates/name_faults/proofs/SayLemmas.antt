-- What the rows of a document use is what its members use.
use Rattle.std.proofs.Common.{◌≡◌, ◌∙◌, ap, sym, refl, subst, ℕ, ◌+◌, Bool, true, if◌then◌else◌, List, [], ◌∷◌, ◌++◌, length, map, flat_map}
use Rattle.std.specs.Prelude.{◌||◌}
use Rattle.std.proofs.lemmas.List.{map-append}
use Rattle.qml_base.specs.declared.numbers.Place.{Place}
use Rattle.qml_syntax.specs.Tree.{Units}
use Rattle.qml_syntax.specs.Nodes.{Table}
use Rattle.qml_types.specs.declared.kind.TypeNo.TheVariants as no
use Rattle.qml_types.specs.declared.kind.TypeRef.TheVariants.{Builtin}
use Rattle.program_names.specs.Written.{WrittenMember, WrittenValue, a_value, OwnedMember}
use Rattle.program_names.specs.Loaded.{Program}
use Rattle.program_names.specs.Layers.{is_type}
use Rattle.document_rows.specs.WholePaths.{path_at}
use Rattle.document_members.specs.declared.member.Member.{Member}
use Rattle.document_members.specs.declared.member.Member.TheVariants as m
use Rattle.document_members.specs.Members.{written_in, added_by}
use Rattle.load_passes.specs.declared.repeated.NameRow.{NameRow}
use Rattle.load_passes.specs.Rows.{owner_row, id_word, role_name}
use Rattle.program_tables.specs.declared.building.UnitRow.{UnitRow}
use Rattle.program_tables.specs.declared.names.UnitNames.{UnitNames}
use Rattle.program_tables.specs.Building.{is_group, is_inside}
use Rattle.program_tables.specs.RowsSay.{RowsSay}
use Rattle.program_tables.specs.Stands.{is_there}
use Rattle.program_tables.specs.Types.{any_of, base_in}
use Rattle.program_tables.proofs.GroupLemmas.{is_filled, inside_alike, filled_by}
use Rattle.document_tables.specs.Groups.{insides}
use Rattle.document_tables.proofs.ThereLemmas.{AllThere}
use Rattle.written_order.specs.InOrder.{id_rows, role_rows, names_declared, has_by_type, declared_row as row_written, declared_rows}
use Rattle.name_faults.specs.Names.{by_rows, id_in, id_of, value_under, value_in, value_of, role_of, is_taken, declared_row, names_in, declared_of}

-- what is so of the objects of some members
abbrev pub AllAre : (ℕ → Type 0) → List OwnedMember → Type 0
AllAre holds [] = Unit {0}
AllAre holds (w ∷ ws) = holds w.object × AllAre holds ws

abbrev IsThere : List UnitNames → ℕ → ℕ → Type 0
IsThere us d o = is_there us d o ≡ true

all_there : (us : List UnitNames) (d : ℕ) (ws : List OwnedMember) → AllThere us d ws → AllAre (IsThere us d) ws
all_there us d [] a = tt
all_there us d (w ∷ ws) a = (a.0, all_there us d ws a.1)

-- what a row uses, and what its member uses
abbrev pub Alike : (ℕ → Type 0) → Table → (Bool → UnitRow → List NameRow) → (ℕ → WrittenMember → List NameRow) → Type 0
Alike holds t f g = (before : List Units) (r : UnitRow) → holds r.row.object → f (is_filled before) r ≡ g r.row.object (written_in t before r.row.first r.member)

pub rows_said : (p : Program) (d : ℕ) (holds : ℕ → Type 0) (t : Table) (f : Bool → UnitRow → List NameRow) (g : ℕ → WrittenMember → List NameRow) → Alike holds t f g
    → (grouping : List Bool) (paths : List (List Units)) (rows : List UnitRow) (ws : List OwnedMember) → RowsSay p d t paths rows ws → grouping ≡ map is_filled paths → AllAre holds ws
    → by_rows f rows (insides grouping rows) ≡ flat_map (λ (w : OwnedMember). g w.object w.member) ws
rows_said p d holds t f g same grouping paths [] [] s e a = refl
rows_said p d holds t f g same grouping paths [] (w ∷ ws) s e a = absurd s
rows_said p d holds t f g same grouping paths (r ∷ rs) [] s e a = absurd s
rows_said p d holds t f g same grouping paths (r ∷ rs) (w ∷ ws) s e a =
    let before = path_at paths r.row.group in
    let here : is_inside grouping r.row.group ≡ is_filled before = ap (λ b. is_inside b r.row.group) e ∙ inside_alike paths r.row.group in
    let after : List Bool = grouping ++ (is_inside grouping r.row.group || is_group r.member) ∷ [] in
    ap (λ xs. xs ++ by_rows f rs (insides after rs))
    (ap (λ b. f b r) here ∙ same before r (subst holds (sym s.0.object) a.0) ∙
    ap (λ o. g o (written_in t before r.row.first r.member)) s.0.object ∙ ap (g w.object) s.0.member) ∙
    ap (λ xs. g w.object w.member ++ xs)
    (rows_said p d holds t f g same after (paths ++ (before ++ added_by r.member) ∷ []) rs ws s.1
    (ap (λ bs. bs ++ (is_inside grouping r.row.group || is_group r.member) ∷ []) e ∙
    ap (λ b. map is_filled paths ++ b ∷ []) (ap (λ b. b || is_group r.member) here ∙ sym (filled_by before r.member)) ∙
    sym (map-append is_filled paths ((before ++ added_by r.member) ∷ [])))
    a.1)

-- ---- ids

id_said : (t : Table) (before : List Units) (n : ℕ) (x : Member) → id_in (is_filled before) x ≡ id_word (written_in t before n x)
id_said t [] n (m.Id w name at) = refl
id_said t [] n _ = refl
id_said t (b ∷ bs) n (m.Id w name at) = refl
id_said t (b ∷ bs) n _ = refl

pub ids_said : (p : Program) (d : ℕ) (us : List UnitNames) (t : Table) (rows : List UnitRow) (ws : List OwnedMember) → RowsSay p d t [] rows ws → AllThere us d ws
    → by_rows id_of rows (insides [] rows) ≡ flat_map (λ (w : OwnedMember). id_rows w.object w.member) ws
ids_said p d us t rows ws s a =
    rows_said p d (IsThere us d) t id_of id_rows (λ before r h. ap (map (owner_row r.row.object)) (id_said t before r.row.first r.member)) [] [] rows ws s refl (all_there us d ws a)

-- ---- roles

under : (n : Units) (at : Place) (rest : List Units) (v : WrittenValue) → value_under n at rest ≡ role_name (a_value at (n ∷ rest) v)
under n at [] v = refl
under n at (k ∷ rest) v = refl

longer : (b : Units) (bs : List Units) (n : Units) (rest : List Units) (at : Place) (v : WrittenValue) → Path (List (Units × Place)) [] (role_name (a_value at (b ∷ (bs ++ n ∷ rest)) v))
longer b [] n rest at v = refl
longer b (c ∷ bs) n rest at v = refl

value_said : (t : Table) (before : List Units) (n : ℕ) (x : Member) → value_in (is_filled before) x ≡ role_name (written_in t before n x)
value_said t [] n (m.Given path v) = under path.first path.at path.rest.items _
value_said t [] n (m.Id w name at) = refl
value_said t [] n _ = refl
value_said t (b ∷ bs) n (m.Given path v) = longer b bs path.first path.rest.items path.at _
value_said t (b ∷ bs) n (m.Id w name at) = refl
value_said t (b ∷ bs) n _ = refl

-- an object is of the types that it has in the program
abbrev pub TypesTold : Program → List UnitNames → ℕ → Type 0
TypesTold p us d = (o : ℕ) → is_there us d o ≡ true → any_of (length us + 1) us (Builtin no.ListElement) (base_in us d o) ≡ is_type p d o no.ListElement

pub roles_said : (p : Program) (d : ℕ) (us : List UnitNames) (t : Table) (rows : List UnitRow) (ws : List OwnedMember) → TypesTold p us d → RowsSay p d t [] rows ws → AllThere us d ws
    → by_rows (role_of us d) rows (insides [] rows) ≡ flat_map (λ (w : OwnedMember). role_rows p d w.object w.member) ws
roles_said p d us t rows ws types s a =
    rows_said p d (IsThere us d) t (role_of us d) (role_rows p d)
    (λ before r h.
    ap (λ b. if b then value_of (is_filled before) r else []) (types r.row.object h) ∙
    ap (λ xs. if is_type p d r.row.object no.ListElement then map (owner_row r.row.object) xs else []) (value_said t before r.row.first r.member))
    [] [] rows ws s refl (all_there us d ws a)

-- ---- declared names

name_said : (t : Table) (before : List Units) (n : ℕ) (x : Member) → names_in (is_filled before) x ≡ names_declared (written_in t before n x)
name_said t [] n (m.Property q a k name at v) = refl
name_said t [] n _ = refl
name_said t (b ∷ bs) n (m.Property q a k name at v) = refl
name_said t (b ∷ bs) n _ = refl

-- an object has by its type the names that it has so in the program
abbrev pub NamesTold : Program → List UnitNames → ℕ → Type 0
NamesTold p us d = (o : ℕ) → is_there us d o ≡ true → (name : Units) → is_taken us d o name ≡ has_by_type p d o name

abbrev with_taken : ℕ → Units × Place → Bool → NameRow
with_taken o x b = record { name = x.0; owner = o; at = x.1; taken = b }

same_names : (p : Program) (us : List UnitNames) (d o : ℕ) → ((name : Units) → is_taken us d o name ≡ has_by_type p d o name) → (xs : List (Units × Place))
    → map (declared_row us d o) xs ≡ map (row_written p d o) xs
same_names p us d o same [] = refl
same_names p us d o same (x ∷ xs) =
    ap (λ b. with_taken o x b ∷ map (declared_row us d o) xs) (same x.0) ∙ ap (λ ys. row_written p d o x ∷ ys) (same_names p us d o same xs)

pub declared_said : (p : Program) (d : ℕ) (us : List UnitNames) (t : Table) (rows : List UnitRow) (ws : List OwnedMember) → NamesTold p us d → RowsSay p d t [] rows ws → AllThere us d ws
    → by_rows (declared_of us d) rows (insides [] rows) ≡ flat_map (λ (w : OwnedMember). declared_rows p d w.object w.member) ws
declared_said p d us t rows ws names s a =
    rows_said p d (IsThere us d) t (declared_of us d) (declared_rows p d)
    (λ before r h.
    ap (map (declared_row us d r.row.object)) (name_said t before r.row.first r.member) ∙
    same_names p us d r.row.object (names r.row.object h) (names_declared (written_in t before r.row.first r.member)))
    [] [] rows ws s refl (all_there us d ws a)
