-- The rows of a document: which stand in groups, and that their objects are there.
use Rattle.std.proofs.Common.{◌≡◌, ◌∙◌, ap, sym, refl, arith, ℕ, zero, suc, ◌<◌, ◌≤◌, Bool, true, false, if◌then◌else◌, nat_eq, nat_lt, List, [], ◌∷◌, ◌++◌, length, Some, is_some, subst, Option}
use Rattle.std.specs.Prelude.{slice_get}
use Rattle.std.specs.Option.{unwrap_or, option_and_then}
use Rattle.std.proofs.lemmas.Bool.{false≢true}
use Rattle.std.proofs.lemmas.Bool.Decides.{nat_tests}
use Rattle.qml_syntax.specs.Nodes.{Table}
use Rattle.qml_syntax.specs.Tree.{Units}
use Rattle.program_names.specs.Written.{WrittenObject, WrittenMember, OwnedMember}
use Rattle.program_names.specs.Loaded.{Program, unit_at, no_object, object_at}
use Rattle.document_rows.specs.WrittenObjects.{kept, members_of_object}
use Rattle.document_rows.specs.WholePaths.{path_at}
use Rattle.document_members.specs.declared.member.Member.TheVariants as m
use Rattle.document_members.specs.Members.{added_by}
use Rattle.program_tables.specs.declared.building.UnitRow.{UnitRow}
use Rattle.program_tables.specs.declared.names.UnitNames.{UnitNames}
use Rattle.program_tables.specs.Stands.{is_there}
use Rattle.program_tables.specs.RowsSay.{RowsSay}
use Rattle.document_tables.specs.Tables.{Tells}

abbrev pub AllThere : List UnitNames → ℕ → List OwnedMember → Type 0
AllThere us d [] = Unit {0}
AllThere us d (w ∷ ws) = (is_there us d w.object ≡ true) × AllThere us d ws

-- ---- the objects of the rows are there

abbrev has_some : {X : Type 0} → List X → Bool
has_some [] = false
has_some (x ∷ xs) = true

nothing_left : {X : Type 0} (xs ys : List X) → xs ++ ys ≡ [] → ys ≡ []
nothing_left [] ys e = e
nothing_left (x ∷ xs) ys e = absurd (false≢true (sym (ap has_some e)))

itself : (k : ℕ) → nat_eq k k ≡ true
itself k = grind (arith, nat_tests)

-- no row is of an object from n on
abbrev NoneFrom : ℕ → List OwnedMember → Type 0
NoneFrom n rows = (o : ℕ) → n ≤ o → members_of_object o rows ≡ []

is_lower : (a n : ℕ) → nat_lt a n ≡ true → a < n
is_lower a n h = grind (arith, nat_tests)

is_no_lower : (a n : ℕ) → nat_lt a n ≡ false → n ≤ a
is_no_lower a n h = grind (arith, nat_tests)

some_members : (x : WrittenMember) (xs : List WrittenMember) → x ∷ xs ≡ [] → ⊥
some_members x xs e = false≢true (sym (ap has_some e))

own_row : (n : ℕ) (r : OwnedMember) (rs : List OwnedMember) → NoneFrom n (r ∷ rs) → r.object < n
own_row n r rs h = by_order (nat_lt r.object n) refl
  where
    by_order : (b : Bool) → nat_lt r.object n ≡ b → r.object < n
    by_order true l = is_lower r.object n l
    by_order false l =
        absurd (some_members r.member (members_of_object r.object rs)
        (sym (ap (λ b. (if b then r.member ∷ [] else []) ++ members_of_object r.object rs) (itself r.object)) ∙ h r.object (is_no_lower r.object n l)))

all_there : (us : List UnitNames) (d n : ℕ) → ((o : ℕ) → o < n → is_there us d o ≡ true) → (rows : List OwnedMember) → NoneFrom n rows → AllThere us d rows
all_there us d n there [] h = tt
all_there us d n there (r ∷ rs) h =
    (there r.object (own_row n r rs h), all_there us d n there rs (λ o l. nothing_left (kept o r) (members_of_object o rs) (h o l)))

no_object_past : (ws : List WrittenObject) (o : ℕ) → length ws ≤ o → (unwrap_or (slice_get ws o) no_object).members ≡ []
no_object_past [] o h = refl
no_object_past (w ∷ ws) zero h = absurd (omega arith)
no_object_past (w ∷ ws) (suc o) h = let l : length ws ≤ o = omega arith in no_object_past ws o l

got_some : {X : Type 0} (xs : List X) (o : ℕ) → o < length xs → is_some (slice_get xs o) ≡ true
got_some [] o h = absurd (omega arith)
got_some (x ∷ xs) zero h = refl
got_some (x ∷ xs) (suc o) h = let l : o < length xs = omega arith in got_some xs o l

pub object_there : (us : List UnitNames) (d o : ℕ) (unit : UnitNames) → slice_get us d ≡ Some unit → o < length unit.objects.items → is_there us d o ≡ true
object_there us d o unit e h = ap (λ y. is_some (option_and_then (λ (v : UnitNames). slice_get v.objects.items o) y)) e ∙ got_some unit.objects.items o h

pub rows_there : (p : Program) (d : ℕ) (us : List UnitNames) (t : Table) (names : UnitNames) (rows : List UnitRow) (inside : List Bool) → slice_get us d ≡ Some names → Tells p d t names rows inside
    → AllThere us d (unit_at p d).rows
rows_there p d us tree names rows inside e t =
    all_there us d (length (unit_at p d).objects) (λ o l. object_there us d o names e (t.there o l)) (unit_at p d).rows
    (λ o l. sym (t.unit.members o) ∙ no_object_past (unit_at p d).objects o l)

-- ---- the objects of the rows are among those of the document

below_at : (n : ℕ) (rows : List OwnedMember) → NoneFrom n rows → (k : ℕ) (w : OwnedMember) → slice_get rows k ≡ Some w → w.object < n
below_at n [] h k w e = absurd (false≢true (ap is_some e))
below_at n (r ∷ rs) h zero w e = subst (λ (x : OwnedMember). x.object < n) (ap (λ v. unwrap_or v w) e) (own_row n r rs h)
below_at n (r ∷ rs) h (suc k) w e = below_at n rs (λ o l. nothing_left (kept o r) (members_of_object o rs) (h o l)) k w e

pub rows_below : (p : Program) (d : ℕ) → ((o : ℕ) → (object_at p d o).members ≡ members_of_object o (unit_at p d).rows) → (k : ℕ) (w : OwnedMember) → slice_get (unit_at p d).rows k ≡ Some w
    → w.object < length (unit_at p d).objects
rows_below p d members k w e =
    below_at (length (unit_at p d).objects) (unit_at p d).rows (λ o l. sym (members o) ∙ no_object_past (unit_at p d).objects o l) k w e

-- the object of each row is there
pub row_there : (p : Program) (d : ℕ) (us : List UnitNames) (t : Table) (paths : List (List Units)) (rows : List UnitRow) (ws : List OwnedMember) → RowsSay p d t paths rows ws → AllThere us d ws
    → (k : ℕ) (r : UnitRow) → slice_get rows k ≡ Some r → is_there us d r.row.object ≡ true
row_there p d us t paths [] ws s a k r e = absurd (false≢true (ap is_some e))
row_there p d us t paths (x ∷ rows) [] s a k r e = absurd s
row_there p d us t paths (x ∷ rows) (w ∷ ws) s a zero r e =
    ap (is_there us d) (ap (λ (v : Option UnitRow). (unwrap_or v r).row.object) (sym e) ∙ s.0.object) ∙ a.0
row_there p d us t paths (x ∷ rows) (w ∷ ws) s a (suc k) r e =
    row_there p d us t (paths ++ (path_at paths x.row.group ++ added_by x.member) ∷ []) rows ws s.1 a.1 k r e
