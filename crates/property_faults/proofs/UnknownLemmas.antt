-- What the rows of a document tell is what the definition of UnknownProperty tells.
use Rattle.std.proofs.Common.{◌≡◌, ◌∙◌, ap, sym, refl, subst, ℕ, ◌+◌, Bool, true, false, not, if◌then◌else◌, List, [], ◌∷◌, ◌++◌, length, map, flat_map, Option, Some, None}
use Rattle.std.specs.Prelude.{slice_get, is_some, ◌||◌}
use Rattle.std.specs.Option.{unwrap_or}
use Rattle.std.proofs.lemmas.Bool.{false≢true}
use Rattle.std.proofs.lemmas.List.{map-append}
use Rattle.qml_base.specs.declared.load_cause.LoadCause.TheVariants as cause
use Rattle.qml_base.specs.declared.numbers.Place.{Place}
use Rattle.qml_syntax.specs.Tree.{Units}
use Rattle.qml_syntax.specs.Nodes.{Table}
use Rattle.qml_syntax.specs.Opened.{IsListing}
use Rattle.qml_types.specs.declared.kind.TypeNo.TheVariants as no
use Rattle.qml_types.specs.declared.kind.TypeRef.{TypeRef}
use Rattle.qml_types.specs.declared.kind.TypeRef.TheVariants.{Builtin}
use Rattle.program_names.specs.declared.fault.Fault.{Fault}
use Rattle.program_names.specs.Written.{WrittenMember, WrittenValue, a_value, OwnedMember}
use Rattle.program_names.specs.Loaded.{Program, unit_at}
use Rattle.program_names.specs.Layers.{DefaultProperty, no_default, to_property, to_children, to_component, to_rows, default_of, is_type, is_a}
use Rattle.program_names.specs.Components.{Roots}
use Rattle.program_names.specs.PathMeanings.{here, PathMeaning, a_property_of, an_object_of, a_handler, children_of, no_meaning, without_target, meaning_of_path}
use Rattle.document_rows.specs.WholePaths.{path_at}
use Rattle.document_members.specs.declared.member.Member.{Member}
use Rattle.document_members.specs.declared.member.Member.TheVariants as m
use Rattle.document_members.specs.Members.{written_in, added_by}
use Rattle.load_faults.specs.Faults.{Faults, fault_at, first_from, each_member, Purpose, for_role, as_attached, for_target, by_path}
use Rattle.load_faults.specs.Properties.{unknown_properties, unknown_value, unknown_group, unknown_default, unknown_child, unknown_member, unknown_in_row}
use Rattle.program_tables.specs.declared.building.UnitRow.{UnitRow}
use Rattle.program_tables.specs.declared.names.UnitNames.{UnitNames}
use Rattle.program_tables.specs.Building.{is_group, is_inside}
use Rattle.program_tables.specs.RowsSay.{RowsSay}
use Rattle.program_tables.specs.Stands.{Stands, is_there}
use Rattle.program_tables.specs.Types.{any_of, base_in}
use Rattle.program_tables.proofs.GroupLemmas.{is_filled, inside_alike, filled_by}
use Rattle.document_tables.specs.declared.program.DocumentTable.{DocumentTable}
use Rattle.document_tables.specs.declared.program.ProgramTables.{ProgramTables}
use Rattle.document_tables.specs.Groups.{insides}
use Rattle.document_tables.specs.Tables.{TellProgram, tree_in}
use Rattle.document_tables.proofs.ThereLemmas.{AllThere, rows_there}
use Rattle.written_order.specs.InOrder.{HasMembers, ToldAlike, faults_written}
use Rattle.property_faults.specs.declared.given.GivenFor.{GivenFor}
use Rattle.property_faults.specs.Given.{for_meaning, for_purpose, for_child, given_for, AllGiven}
use Rattle.property_faults.specs.Places.{object_place}
use Rattle.property_faults.specs.Unknown.{is_nothing, is_group_of, takes_child, place_if, is_single, unknown_at, unknown_fault, unknown_row, by_rows}
use Rattle.property_faults.proofs.PlaceLemmas.{object_said}

-- ---- the definition, by the words that it is made of

abbrev unknown_here : Program → Roots → ℕ → ℕ → WrittenMember → Faults
unknown_here p roots d o x = if is_type p d o no.ListElement then unknown_in_row x else unknown_member p roots d o x

unknown_so : (p : Program) (roots : Roots) (d : ℕ) → unknown_properties p roots d ≡ each_member p d (unknown_here p roots d)
unknown_so p roots d = refl

-- ---- what is given

value_told : (at : Place) (s : Purpose) → unknown_fault (place_if (is_nothing (for_purpose s)) at) ≡ unknown_value at s
value_told at for_role = refl
value_told at as_attached = refl
value_told at for_target = refl
value_told at (by_path (a_property_of way place k a own)) = refl
value_told at (by_path (an_object_of s)) = refl
value_told at (by_path (a_handler names)) = refl
value_told at (by_path (children_of way)) = refl
value_told at (by_path no_meaning) = refl
value_told at (by_path without_target) = refl

group_told : (at : Place) (s : PathMeaning) → unknown_fault (place_if (not (is_group_of (for_meaning s))) at) ≡ unknown_group at s
group_told at (a_property_of way place k a own) = refl
group_told at (an_object_of s) = refl
group_told at (a_handler names) = refl
group_told at (children_of way) = refl
group_told at no_meaning = refl
group_told at without_target = refl

default_told : (at : Place) (s : PathMeaning) → unknown_fault (place_if (not (takes_child (for_meaning s))) at) ≡ unknown_default at s
default_told at (a_property_of way place k a own) = refl
default_told at (an_object_of s) = refl
default_told at (a_handler names) = refl
default_told at (children_of way) = refl
default_told at no_meaning = refl
default_told at without_target = refl

child_told : (p : Program) (roots : Roots) (d o : ℕ) (at : Place) (x : DefaultProperty) → unknown_fault (place_if (not (takes_child (for_child p roots d o x))) at) ≡ unknown_child p roots d o at x
child_told p roots d o at no_default = refl
child_told p roots d o at (to_property n) = default_told at (meaning_of_path p roots (here d o) (n ∷ []))
child_told p roots d o at to_children = refl
child_told p roots d o at to_component = refl
child_told p roots d o at to_rows = refl

-- ---- a member

member_told : (p : Program) (roots : Roots) (d o : ℕ) (t : Table) → IsListing t → (before : List Units) (n : ℕ) (x : Member) (g : GivenFor) → g ≡ given_for p roots d o (written_in t before n x)
    → unknown_fault (unknown_at t false (is_filled before) x g) ≡ unknown_member p roots d o (written_in t before n x)
member_told p roots d o t lists [] n (m.Given path v) g e = ap (λ y. unknown_fault (place_if (is_nothing y) path.at)) e ∙ value_told path.at _
member_told p roots d o t lists [] n (m.Group path) g e = ap (λ y. unknown_fault (place_if (not (is_group_of y)) path.at)) e ∙ group_told path.at _
member_told p roots d o t lists [] n (m.Child c) g e =
    ap (λ y. unknown_fault (place_if (not (takes_child y)) (object_place t c))) e ∙
    ap (λ at. unknown_fault (place_if (not (takes_child (for_child p roots d o (default_of p d o)))) at)) (object_said t c lists) ∙
    child_told p roots d o _ (default_of p d o)
member_told p roots d o t lists [] n (m.Id w name at) g e = refl
member_told p roots d o t lists [] n _ g e = refl
member_told p roots d o t lists (b ∷ bs) n (m.Given path v) g e = ap (λ y. unknown_fault (place_if (is_nothing y) path.at)) e ∙ value_told path.at _
member_told p roots d o t lists (b ∷ bs) n (m.Group path) g e = ap (λ y. unknown_fault (place_if (not (is_group_of y)) path.at)) e ∙ group_told path.at _
member_told p roots d o t lists (b ∷ bs) n (m.Child c) g e = ap (λ at. fault_at at cause.UnknownProperty) (object_said t c lists)
member_told p roots d o t lists (b ∷ bs) n (m.Id w name at) g e = refl
member_told p roots d o t lists (b ∷ bs) n _ g e = refl

under : (at : Place) (n : Units) (rest : List Units) (v : WrittenValue) → unknown_fault (if is_single rest then None else Some at) ≡ unknown_in_row (a_value at (n ∷ rest) v)
under at n [] v = refl
under at n (k ∷ rest) v = refl

longer : (at : Place) (b : Units) (bs : List Units) (n : Units) (rest : List Units) (v : WrittenValue) → fault_at at cause.UnknownProperty ≡ unknown_in_row (a_value at (b ∷ (bs ++ n ∷ rest)) v)
longer at b [] n rest v = refl
longer at b (c ∷ bs) n rest v = refl

element_told : (t : Table) → IsListing t → (before : List Units) (n : ℕ) (x : Member) (g : GivenFor) → unknown_fault (unknown_at t true (is_filled before) x g) ≡ unknown_in_row (written_in t before n x)
element_told t lists [] n (m.Given path v) g = under path.at path.first path.rest.items _
element_told t lists [] n (m.Child c) g = ap (λ at. fault_at at cause.UnknownProperty) (object_said t c lists)
element_told t lists [] n (m.Id w name at) g = refl
element_told t lists [] n _ g = refl
element_told t lists (b ∷ bs) n (m.Given path v) g = longer path.at b bs path.first path.rest.items _
element_told t lists (b ∷ bs) n (m.Child c) g = ap (λ at. fault_at at cause.UnknownProperty) (object_said t c lists)
element_told t lists (b ∷ bs) n (m.Id w name at) g = refl
element_told t lists (b ∷ bs) n _ g = refl

either_told : (p : Program) (roots : Roots) (d o : ℕ) (t : Table) → IsListing t → (element : Bool) (before : List Units) (n : ℕ) (x : Member) (g : GivenFor) → g ≡ given_for p roots d o (written_in t before n x)
    → unknown_fault (unknown_at t element (is_filled before) x g) ≡ (if element then unknown_in_row (written_in t before n x) else unknown_member p roots d o (written_in t before n x))
either_told p roots d o t lists true before n x g e = element_told t lists before n x g
either_told p roots d o t lists false before n x g e = member_told p roots d o t lists before n x g e

-- ---- all rows

abbrev TypesTold : Program → List UnitNames → ℕ → Type 0
TypesTold p us d = (o : ℕ) → is_there us d o ≡ true → any_of (length us + 1) us (Builtin no.ListElement) (base_in us d o) ≡ is_type p d o no.ListElement

rows_said : (p : Program) (roots : Roots) (d : ℕ) (us : List UnitNames) (t : Table) → IsListing t → TypesTold p us d
    → (grouping : List Bool) (paths : List (List Units)) (rows : List UnitRow) (ws : List OwnedMember) (gs : List GivenFor) → RowsSay p d t paths rows ws → AllGiven p roots d gs ws
    → grouping ≡ map is_filled paths → AllThere us d ws
    → by_rows (unknown_row us d t) rows (insides grouping rows) gs ≡ flat_map (λ (w : OwnedMember). unknown_here p roots d w.object w.member) ws
rows_said p roots d us t lists types grouping paths [] [] gs s g e a = refl
rows_said p roots d us t lists types grouping paths [] (w ∷ ws) gs s g e a = absurd s
rows_said p roots d us t lists types grouping paths (r ∷ rs) [] gs s g e a = absurd s
rows_said p roots d us t lists types grouping paths (r ∷ rs) (w ∷ ws) [] s g e a = absurd g
rows_said p roots d us t lists types grouping paths (r ∷ rs) (w ∷ ws) (x ∷ xs) s g e a =
    let before = path_at paths r.row.group in
    let o : ℕ = r.row.object in
    let inside : is_inside grouping r.row.group ≡ is_filled before = ap (λ b. is_inside b r.row.group) e ∙ inside_alike paths r.row.group in
    let after : List Bool = grouping ++ (is_inside grouping r.row.group || is_group r.member) ∷ [] in
    let given : x ≡ given_for p roots d o (written_in t before r.row.first r.member) =
    g.0 ∙ ap (λ k. given_for p roots d k w.member) (sym s.0.object) ∙ ap (given_for p roots d o) (sym s.0.member) in
    ap (λ b. unknown_row us d t b r x ++ by_rows (unknown_row us d t) rs (insides after rs) xs) inside ∙
    ap (λ ys. ys ++ by_rows (unknown_row us d t) rs (insides after rs) xs)
    (ap (λ b. unknown_fault (unknown_at t b (is_filled before) r.member x)) (types o (ap (is_there us d) s.0.object ∙ a.0)) ∙
    either_told p roots d o t lists (is_type p d o no.ListElement) before r.row.first r.member x given ∙
    ap (λ k. unknown_here p roots d k (written_in t before r.row.first r.member)) s.0.object ∙ ap (unknown_here p roots d w.object) s.0.member) ∙
    ap (λ ys. unknown_here p roots d w.object w.member ++ ys)
    (rows_said p roots d us t lists types after (paths ++ (before ++ added_by r.member) ∷ []) rs ws xs s.1 g.1
    (ap (λ bs. bs ++ (is_inside grouping r.row.group || is_group r.member) ∷ []) e ∙
    ap (λ b. map is_filled paths ++ b ∷ []) (ap (λ b. b || is_group r.member) inside ∙ sym (filled_by before r.member)) ∙
    sym (map-append is_filled paths ((before ++ added_by r.member) ∷ [])))
    a.1)

-- the laws, as they are called

abbrev TypesMean : Type 0
TypesMean =
    (p : Program) (us : List UnitNames) → Stands p us → (d o : ℕ) → is_there us d o ≡ true → (wanted : TypeRef)
    → any_of (length us + 1) us wanted (base_in us d o) ≡ is_a p d o wanted

abbrev MembersAlike : Type 0
MembersAlike = (p : Program) (d : ℕ) (f : ℕ → WrittenMember → Faults) → HasMembers p d → ToldAlike (faults_written p d f) (each_member p d f)

pub unknown_told : (p : Program) (roots : Roots) (tables : ProgramTables) (d : ℕ) (t : Table) (x : DocumentTable) (gs : List GivenFor) (kept after : Option Fault) → IsListing t → TypesMean → MembersAlike
    → TellProgram p tables → slice_get tables.documents.items d ≡ Some x → t ≡ tree_in x.content.value → AllGiven p roots d gs (unit_at p d).rows
    → after ≡ first_from kept (by_rows (unknown_row tables.names.units.items d t) x.rows.items x.inside.items gs)
    → after ≡ first_from kept (unknown_properties p roots d)
unknown_told p roots tables d t x gs kept after lists types members h e same given told =
    let y = h.tells d x e in
    let us : List UnitNames = tables.names.units.items in
    let ws : List OwnedMember = (unit_at p d).rows in
    let says : RowsSay p d t [] x.rows.items ws =
    subst (λ table. RowsSay p d table [] x.rows.items ws) (y.2.tree ∙ sym same)
    (subst (λ rs. RowsSay p d y.2.unit.tree [] rs ws) y.2.made y.2.unit.says) in
    told ∙
    ap (first_from kept)
    (ap (λ bs. by_rows (unknown_row us d t) x.rows.items bs gs) y.2.groups ∙
    rows_said p roots d us t lists (λ o there. types p us h.stands d o there (Builtin no.ListElement)) [] [] x.rows.items ws gs says given refl
    (rows_there p d us (tree_in x.content.value) y.0 x.rows.items x.inside.items y.1 y.2)) ∙
    members p d (unknown_here p roots d) y.2.unit.members kept

-- ---- the table of a number

pub same_table : (tables : ProgramTables) (d : ℕ) (x y : DocumentTable) → slice_get tables.documents.items d ≡ Some x → slice_get tables.documents.items d ≡ Some y → x ≡ y
same_table tables d x y e g = ap (λ (o : Option DocumentTable). unwrap_or o x) (sym e ∙ g)

pub tree_of : (x y : DocumentTable) → x ≡ y → tree_in x.content.value ≡ tree_in y.content.value
tree_of x y e = ap (λ (v : DocumentTable). tree_in v.content.value) e

pub no_table : (tables : ProgramTables) (d : ℕ) (x : DocumentTable) → slice_get tables.documents.items d ≡ Some x → slice_get tables.documents.items d ≡ None → ⊥
no_table tables d x e g = false≢true (ap is_some (sym g ∙ e))
