-- What the rows of a document tell is what the definition of ReadOnly tells.
use Rattle.std.proofs.Common.{◌≡◌, ◌∙◌, ap, sym, refl, subst, ℕ, Bool, true, false, not, List, [], ◌∷◌, ◌++◌, map, flat_map, Option, Some}
use Rattle.std.specs.Prelude.{slice_get, ◌||◌}
use Rattle.std.proofs.lemmas.List.{map-append}
use Rattle.qml_base.specs.declared.load_cause.LoadCause.TheVariants as cause
use Rattle.qml_base.specs.declared.numbers.Place.{Place}
use Rattle.qml_syntax.specs.Tree.{Units}
use Rattle.qml_syntax.specs.Nodes.{Table}
use Rattle.qml_syntax.specs.Opened.{IsListing}
use Rattle.program_names.specs.declared.fault.Fault.{Fault}
use Rattle.program_names.specs.Written.{WrittenMember, OwnedMember}
use Rattle.program_names.specs.Loaded.{Program, unit_at}
use Rattle.program_names.specs.Layers.{DefaultProperty, no_default, to_property, to_children, to_component, to_rows, default_of}
use Rattle.program_names.specs.Components.{Roots}
use Rattle.program_names.specs.PathMeanings.{here, PathMeaning, a_property_of, an_object_of, a_handler, children_of, no_meaning, without_target, meaning_of_path}
use Rattle.document_rows.specs.WholePaths.{path_at}
use Rattle.document_members.specs.declared.member.Member.{Member}
use Rattle.document_members.specs.declared.member.Member.TheVariants as m
use Rattle.document_members.specs.Members.{written_in, added_by}
use Rattle.load_faults.specs.Faults.{Faults, fault_if, first_from, each_member, Purpose, for_role, as_attached, for_target, by_path}
use Rattle.load_faults.specs.Properties.{may_be_given, read_only_by, read_only_value, read_only_child, read_only_member, read_only_values}
use Rattle.program_tables.specs.declared.building.UnitRow.{UnitRow}
use Rattle.program_tables.specs.Building.{is_group, is_inside}
use Rattle.program_tables.specs.RowsSay.{RowsSay}
use Rattle.program_tables.proofs.GroupLemmas.{is_filled, inside_alike, filled_by}
use Rattle.document_tables.specs.declared.program.DocumentTable.{DocumentTable}
use Rattle.document_tables.specs.declared.program.ProgramTables.{ProgramTables}
use Rattle.document_tables.specs.Groups.{insides}
use Rattle.document_tables.specs.Tables.{TellProgram, tree_in}
use Rattle.written_order.specs.InOrder.{HasMembers, ToldAlike, faults_written}
use Rattle.property_faults.specs.declared.given.GivenFor.{GivenFor}
use Rattle.property_faults.specs.Given.{for_meaning, for_purpose, for_child, given_for, AllGiven}
use Rattle.property_faults.specs.Places.{object_place}
use Rattle.property_faults.specs.Unknown.{place_if, by_rows}
use Rattle.property_faults.specs.ReadOnly.{is_read_only, read_only_at, read_only_fault, read_only_row}
use Rattle.property_faults.proofs.PlaceLemmas.{object_said}

-- ---- what is given

if_told : (b : Bool) (at : Place) → read_only_fault (place_if b at) ≡ fault_if b at cause.ReadOnly
if_told true at = refl
if_told false at = refl

meaning_told : (at : Place) (s : PathMeaning) → read_only_fault (place_if (is_read_only (for_meaning s)) at) ≡ read_only_by at s
meaning_told at (a_property_of way place k a own) = if_told (not (may_be_given a own)) at
meaning_told at (an_object_of s) = refl
meaning_told at (a_handler names) = refl
meaning_told at (children_of way) = refl
meaning_told at no_meaning = refl
meaning_told at without_target = refl

value_told : (at : Place) (s : Purpose) → read_only_fault (place_if (is_read_only (for_purpose s)) at) ≡ read_only_value at s
value_told at for_role = refl
value_told at as_attached = refl
value_told at for_target = refl
value_told at (by_path s) = meaning_told at s

child_told : (p : Program) (roots : Roots) (d o : ℕ) (at : Place) (x : DefaultProperty) → read_only_fault (place_if (is_read_only (for_child p roots d o x)) at) ≡ read_only_child p roots d o at x
child_told p roots d o at no_default = refl
child_told p roots d o at (to_property n) = meaning_told at (meaning_of_path p roots (here d o) (n ∷ []))
child_told p roots d o at to_children = refl
child_told p roots d o at to_component = refl
child_told p roots d o at to_rows = refl

-- ---- a member

member_told : (p : Program) (roots : Roots) (d o : ℕ) (t : Table) → IsListing t → (before : List Units) (n : ℕ) (x : Member) (g : GivenFor) → g ≡ given_for p roots d o (written_in t before n x)
    → read_only_fault (read_only_at t (is_filled before) x g) ≡ read_only_member p roots d o (written_in t before n x)
member_told p roots d o t lists [] n (m.Given path v) g e = ap (λ y. read_only_fault (place_if (is_read_only y) path.at)) e ∙ value_told path.at _
member_told p roots d o t lists [] n (m.Child c) g e =
    ap (λ y. read_only_fault (place_if (is_read_only y) (object_place t c))) e ∙
    ap (λ at. read_only_fault (place_if (is_read_only (for_child p roots d o (default_of p d o))) at)) (object_said t c lists) ∙
    child_told p roots d o _ (default_of p d o)
member_told p roots d o t lists [] n (m.Id w name at) g e = refl
member_told p roots d o t lists [] n _ g e = refl
member_told p roots d o t lists (b ∷ bs) n (m.Given path v) g e = ap (λ y. read_only_fault (place_if (is_read_only y) path.at)) e ∙ value_told path.at _
member_told p roots d o t lists (b ∷ bs) n (m.Id w name at) g e = refl
member_told p roots d o t lists (b ∷ bs) n _ g e = refl

-- ---- all rows

rows_said : (p : Program) (roots : Roots) (d : ℕ) (t : Table) → IsListing t
    → (grouping : List Bool) (paths : List (List Units)) (rows : List UnitRow) (ws : List OwnedMember) (gs : List GivenFor) → RowsSay p d t paths rows ws → AllGiven p roots d gs ws
    → grouping ≡ map is_filled paths → by_rows (read_only_row t) rows (insides grouping rows) gs ≡ flat_map (λ (w : OwnedMember). read_only_member p roots d w.object w.member) ws
rows_said p roots d t lists grouping paths [] [] gs s g e = refl
rows_said p roots d t lists grouping paths [] (w ∷ ws) gs s g e = absurd s
rows_said p roots d t lists grouping paths (r ∷ rs) [] gs s g e = absurd s
rows_said p roots d t lists grouping paths (r ∷ rs) (w ∷ ws) [] s g e = absurd g
rows_said p roots d t lists grouping paths (r ∷ rs) (w ∷ ws) (x ∷ xs) s g e =
    let before = path_at paths r.row.group in
    let o : ℕ = r.row.object in
    let inside : is_inside grouping r.row.group ≡ is_filled before = ap (λ b. is_inside b r.row.group) e ∙ inside_alike paths r.row.group in
    let after : List Bool = grouping ++ (is_inside grouping r.row.group || is_group r.member) ∷ [] in
    let given : x ≡ given_for p roots d o (written_in t before r.row.first r.member) =
    g.0 ∙ ap (λ k. given_for p roots d k w.member) (sym s.0.object) ∙ ap (given_for p roots d o) (sym s.0.member) in
    ap (λ b. read_only_row t b r x ++ by_rows (read_only_row t) rs (insides after rs) xs) inside ∙
    ap (λ ys. ys ++ by_rows (read_only_row t) rs (insides after rs) xs)
    (member_told p roots d o t lists before r.row.first r.member x given ∙
    ap (λ k. read_only_member p roots d k (written_in t before r.row.first r.member)) s.0.object ∙ ap (read_only_member p roots d w.object) s.0.member) ∙
    ap (λ ys. read_only_member p roots d w.object w.member ++ ys)
    (rows_said p roots d t lists after (paths ++ (before ++ added_by r.member) ∷ []) rs ws xs s.1 g.1
    (ap (λ bs. bs ++ (is_inside grouping r.row.group || is_group r.member) ∷ []) e ∙
    ap (λ b. map is_filled paths ++ b ∷ []) (ap (λ b. b || is_group r.member) inside ∙ sym (filled_by before r.member)) ∙
    sym (map-append is_filled paths ((before ++ added_by r.member) ∷ []))))

-- the law, as it is called
abbrev MembersAlike : Type 0
MembersAlike = (p : Program) (d : ℕ) (f : ℕ → WrittenMember → Faults) → HasMembers p d → ToldAlike (faults_written p d f) (each_member p d f)

pub read_only_told : (p : Program) (roots : Roots) (tables : ProgramTables) (d : ℕ) (t : Table) (x : DocumentTable) (gs : List GivenFor) (kept after : Option Fault) → IsListing t → MembersAlike
    → TellProgram p tables → slice_get tables.documents.items d ≡ Some x → t ≡ tree_in x.content.value → AllGiven p roots d gs (unit_at p d).rows
    → after ≡ first_from kept (by_rows (read_only_row t) x.rows.items x.inside.items gs)
    → after ≡ first_from kept (read_only_values p roots d)
read_only_told p roots tables d t x gs kept after lists members h e same given told =
    let y = h.tells d x e in
    let ws : List OwnedMember = (unit_at p d).rows in
    let says : RowsSay p d t [] x.rows.items ws =
    subst (λ table. RowsSay p d table [] x.rows.items ws) (y.2.tree ∙ sym same)
    (subst (λ rs. RowsSay p d y.2.unit.tree [] rs ws) y.2.made y.2.unit.says) in
    told ∙
    ap (first_from kept)
    (ap (λ bs. by_rows (read_only_row t) x.rows.items bs gs) y.2.groups ∙ rows_said p roots d t lists [] [] x.rows.items ws gs says given refl) ∙
    members p d (read_only_member p roots d) y.2.unit.members kept
