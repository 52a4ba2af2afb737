-- What the rows of a document tell is what the definition of NotLiteral tells.
use Rattle.std.proofs.Common.{◌≡◌, ◌∙◌, ap, sym, refl, subst, inl, inr, ℕ, Bool, true, false, not, ◌&&◌, if◌then◌else◌, List, [], ◌∷◌, ◌++◌, flat_map, Option, Some, None}
use Rattle.std.specs.Prelude.{slice_get, is_some}
use Rattle.std.specs.Option.{option_map}
use Rattle.qml_base.specs.declared.load_cause.LoadCause.TheVariants as cause
use Rattle.qml_base.specs.declared.numbers.Place.{Place}
use Rattle.qml_syntax.specs.Tree.{Units}
use Rattle.qml_syntax.specs.Nodes.{Item, of_stmt, of_object, of_objects, mark, Table}
use Rattle.qml_syntax.specs.Places.{part_at}
use Rattle.qml_value.specs.declared.value.Kind.{Kind}
use Rattle.qml_value.specs.declared.value.Value.{Value}
use Rattle.qml_value.specs.Kinds.{kind_of}
use Rattle.program_names.specs.declared.fault.Fault.{Fault}
use Rattle.program_names.specs.Literals.{literal_of}
use Rattle.program_names.specs.Written.{WrittenObject, WrittenMember, OwnedMember, value_from}
use Rattle.program_names.specs.Loaded.{Program, unit_at}
use Rattle.program_names.specs.Components.{Roots}
use Rattle.program_names.specs.PathMeanings.{a_property_of, an_object_of, a_handler, children_of, no_meaning, without_target}
use Rattle.document_rows.specs.declared.rows.ObjectRow.{ObjectRow}
use Rattle.document_rows.specs.WholePaths.{path_at}
use Rattle.document_members.specs.declared.member.Member.{Member}
use Rattle.document_members.specs.declared.member.Member.TheVariants as m
use Rattle.document_members.specs.Members.{value_at, written_in, added_by, names_of}
use Rattle.document_members.specs.Parts.{value_in}
use Rattle.load_faults.specs.Faults.{Faults, fault_if, first_from, each_member, objects_from, place_of_value, Purpose, for_role, as_attached, for_target, by_path, purpose_of}
use Rattle.load_faults.specs.Properties.{is_literal_value, not_literal_member, not_literals}
use Rattle.load_faults.specs.Properties as defined
use Rattle.program_tables.specs.declared.building.UnitRow.{UnitRow}
use Rattle.program_tables.specs.RowsSay.{RowsSay}
use Rattle.document_tables.specs.declared.program.DocumentTable.{DocumentTable}
use Rattle.document_tables.specs.declared.program.ProgramTables.{ProgramTables}
use Rattle.document_tables.specs.Tables.{IsWritten, OfNothing, TellProgram, tree_in}
use Rattle.written_order.specs.InOrder.{HasMembers, ToldAlike, faults_written}
use Rattle.value_reading.specs.LiteralKinds.{literal_kind}
use Rattle.value_places.specs.Places.{value_place}
use Rattle.value_places.proofs.PlaceLemmas.{value_told}
use Rattle.property_faults.specs.declared.given.GivenFor.{GivenFor}
use Rattle.property_faults.specs.Given.{for_purpose, given_for, AllGiven}
use Rattle.literal_faults.specs.Literals.{wants_literal, place_unless, not_literal_at, not_literal_fault, not_literal_row, by_given}

-- ---- a value

wants_alike : (s : Purpose) → wants_literal (for_purpose s) ≡ defined.wants_literal s
wants_alike for_role = refl
wants_alike as_attached = refl
wants_alike for_target = refl
wants_alike (by_path (a_property_of way place k a own)) = refl
wants_alike (by_path (an_object_of s)) = refl
wants_alike (by_path (a_handler names)) = refl
wants_alike (by_path (children_of way)) = refl
wants_alike (by_path no_meaning) = refl
wants_alike (by_path without_target) = refl

some_kind : (v : Option Value) → is_some v ≡ is_some (option_map kind_of v)
some_kind None = refl
some_kind (Some v) = refl

literal_alike : (first : ℕ) (i : Item) → is_literal_value (value_from first (value_in i)) ≡ is_some (literal_kind i)
literal_alike first (of_stmt s) = some_kind (literal_of s)
literal_alike first (of_object o) = refl
literal_alike first (of_objects q os) = refl
literal_alike first mark = refl
literal_alike first _ = refl

if_told : (wanted : Bool) (k : Option Kind) (at : Place) → not_literal_fault (if wanted then place_unless k at else None) ≡ fault_if (wanted && not (is_some k)) at cause.NotLiteral
if_told false k at = refl
if_told true None at = refl
if_told true (Some k) at = refl

-- ---- a member

abbrev PlacesTold : Program → ℕ → Table → List ObjectRow → Type 0
PlacesTold p d t objects = (first at : ℕ) → value_place t objects first at ≡ place_of_value p d (value_at t first at)

abbrev told_of : Purpose → Bool → Place → Faults
told_of s literal at = fault_if (defined.wants_literal s && not literal) at cause.NotLiteral

member_told : (p : Program) (roots : Roots) (d o : ℕ) (t : Table) (objects : List ObjectRow) → PlacesTold p d t objects → (before : List Units) (n : ℕ) (x : Member) (g : GivenFor) → g ≡ given_for p roots d o (written_in t before n x)
    → not_literal_fault (not_literal_at t objects n x g) ≡ not_literal_member p roots d o (written_in t before n x)
member_told p roots d o t objects places before n (m.Given path v) g e =
    let s = purpose_of p roots d o (before ++ names_of path) in
    ap (λ b. not_literal_fault (if b then place_unless (literal_kind (part_at t v)) (value_place t objects n v) else None)) (ap wants_literal e ∙ wants_alike s) ∙
    if_told (defined.wants_literal s) (literal_kind (part_at t v)) (value_place t objects n v) ∙
    ap (λ b. told_of s b (value_place t objects n v)) (sym (literal_alike n (part_at t v))) ∙
    ap (told_of s (is_literal_value (value_at t n v))) (places n v)
member_told p roots d o t objects places [] n (m.Id w name at) g e = refl
member_told p roots d o t objects places [] n _ g e = refl
member_told p roots d o t objects places (b ∷ bs) n (m.Id w name at) g e = refl
member_told p roots d o t objects places (b ∷ bs) n _ g e = refl

-- ---- all rows

rows_said : (p : Program) (roots : Roots) (d : ℕ) (t : Table) (objects : List ObjectRow) → PlacesTold p d t objects
    → (paths : List (List Units)) (rows : List UnitRow) (ws : List OwnedMember) (gs : List GivenFor) → RowsSay p d t paths rows ws → AllGiven p roots d gs ws
    → by_given (not_literal_row t objects) rows gs ≡ flat_map (λ (w : OwnedMember). not_literal_member p roots d w.object w.member) ws
rows_said p roots d t objects places paths [] [] gs s g = refl
rows_said p roots d t objects places paths [] (w ∷ ws) gs s g = absurd s
rows_said p roots d t objects places paths (r ∷ rs) [] gs s g = absurd s
rows_said p roots d t objects places paths (r ∷ rs) (w ∷ ws) [] s g = absurd g
rows_said p roots d t objects places paths (r ∷ rs) (w ∷ ws) (x ∷ xs) s g =
    let before = path_at paths r.row.group in
    let o : ℕ = r.row.object in
    let given : x ≡ given_for p roots d o (written_in t before r.row.first r.member) =
    g.0 ∙ ap (λ k. given_for p roots d k w.member) (sym s.0.object) ∙ ap (given_for p roots d o) (sym s.0.member) in
    ap (λ ys. ys ++ by_given (not_literal_row t objects) rs xs)
    (member_told p roots d o t objects places before r.row.first r.member x given ∙
    ap (λ k. not_literal_member p roots d k (written_in t before r.row.first r.member)) s.0.object ∙ ap (not_literal_member p roots d w.object) s.0.member) ∙
    ap (λ ys. not_literal_member p roots d w.object w.member ++ ys)
    (rows_said p roots d t objects places (paths ++ (before ++ added_by r.member) ∷ []) rs ws xs s.1 g.1)

-- the law, as it is called
abbrev MembersAlike : Type 0
MembersAlike = (p : Program) (d : ℕ) (f : ℕ → WrittenMember → Faults) → HasMembers p d → ToldAlike (faults_written p d f) (each_member p d f)

no_rows : (p : Program) (roots : Roots) (d : ℕ) (t : Table) (objects : List ObjectRow) (rows : List UnitRow) (gs : List GivenFor) → OfNothing (unit_at p d) objects rows
    → by_given (not_literal_row t objects) rows gs ≡ not_literals p roots d
no_rows p roots d t objects rows gs w =
    ap (λ rs. by_given (not_literal_row t objects) rs gs) w.no_rows ∙
    ap (λ ws. objects_from 0 ws (λ o y. flat_map (not_literal_member p roots d o) y.members)) (sym w.none)

pub not_literal_told : (p : Program) (roots : Roots) (tables : ProgramTables) (d : ℕ) (t : Table) (x : DocumentTable) (gs : List GivenFor) (kept after : Option Fault) → MembersAlike
    → TellProgram p tables → slice_get tables.documents.items d ≡ Some x → t ≡ tree_in x.content.value → AllGiven p roots d gs (unit_at p d).rows
    → after ≡ first_from kept (by_given (not_literal_row t x.objects.items) x.rows.items gs)
    → after ≡ first_from kept (not_literals p roots d)
not_literal_told p roots tables d t x gs kept after members h e same given told =
    told ∙ by_written (h.written d x e)
  where
    by_written : IsWritten (unit_at p d) (tree_in x.content.value) x.objects.items x.rows.items
        → first_from kept (by_given (not_literal_row t x.objects.items) x.rows.items gs) ≡ first_from kept (not_literals p roots d)
    by_written (inr w) = ap (first_from kept) (no_rows p roots d t x.objects.items x.rows.items gs w)
    by_written (inl w) =
        let y = h.tells d x e in
        let ws : List OwnedMember = (unit_at p d).rows in
        let says : RowsSay p d t [] x.rows.items ws =
        subst (λ table. RowsSay p d table [] x.rows.items ws) (y.2.tree ∙ sym same)
        (subst (λ rs. RowsSay p d y.2.unit.tree [] rs ws) y.2.made y.2.unit.says) in
        let places : PlacesTold p d t x.objects.items =
        subst (λ table. PlacesTold p d table x.objects.items) (sym same)
        (λ first at. value_told p d w.file (tree_in x.content.value) x.objects.items _ w.are w.same first at) in
        ap (first_from kept) (rows_said p roots d t x.objects.items places [] x.rows.items ws gs says given) ∙
        members p d (not_literal_member p roots d) y.2.unit.members kept
