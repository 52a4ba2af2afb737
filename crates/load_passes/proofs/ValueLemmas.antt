-- The rows of values have the faults of the values.
use Rattle.std.proofs.Common.{◌≡◌, ◌∙◌, ap, sym, refl, ℕ, suc, Bool, true, false, not, ◌&&◌, List, [], ◌∷◌, ◌++◌, flat_map}
use Rattle.std.proofs.lemmas.List.{append-nil}
use Rattle.qml_base.specs.declared.numbers.Place.{Place}
use Rattle.qml_base.specs.declared.load_cause.LoadCause.TheVariants as cause
use Rattle.program_names.specs.Written.{WrittenObject, WrittenMember, an_id, a_property, an_alias, a_signal, a_function, a_value, a_group, a_child, a_stray}
use Rattle.program_names.specs.Loaded.{Program, unit_at}
use Rattle.program_names.specs.Layers.{DefaultProperty, no_default, to_property, to_children, to_component, to_rows, default_of}
use Rattle.program_names.specs.Components.{Roots}
use Rattle.program_names.specs.PathMeanings.{here, PathMeaning, a_property_of, an_object_of, a_handler, children_of, no_meaning, without_target, meaning_of_path}
use Rattle.load_faults.specs.Faults.{Faults, fault_if, objects_from, place_of_value, Purpose, for_role, as_attached, for_target, by_path, purpose_of}
use Rattle.load_faults.specs.Properties.{may_be_given, is_literal_access, is_literal_value, read_only_by, read_only_value, read_only_child, read_only_member, read_only_values, wants_literal, not_literal_member, not_literals}
use Rattle.load_passes.specs.declared.values.ValueRow.{ValueRow}
use Rattle.load_passes.specs.Rows.{read_only, not_literal, value_faults, row_by_meaning, row_by_purpose, row_of_child, rows_of_member, rows_from, value_rows}

flat_append : {A B : Type 0} (f : A → List B) (xs ys : List A) → flat_map f (xs ++ ys) ≡ flat_map f xs ++ flat_map f ys
flat_append f [] ys = refl
flat_append f (x ∷ xs) ys = ap (λ zs. f x ++ zs) (flat_append f xs ys) ∙ sym (assoc (f x) (flat_map f xs) (flat_map f ys))
  where
    assoc : {B : Type 0} (a b c : List B) → (a ++ b) ++ c ≡ a ++ (b ++ c)
    assoc [] b c = refl
    assoc (y ∷ a) b c = ap (λ zs. y ∷ zs) (assoc a b c)

-- ---- ReadOnly

read_only_meaning : (at va : Place) (lit : Bool) (s : PathMeaning) → flat_map read_only (row_by_meaning at va lit s) ≡ read_only_by at s
read_only_meaning at va lit (a_property_of way place k a own) = append-nil (fault_if (not (may_be_given a own)) at cause.ReadOnly)
read_only_meaning at va lit (an_object_of s) = refl
read_only_meaning at va lit (a_handler names) = refl
read_only_meaning at va lit (children_of way) = refl
read_only_meaning at va lit no_meaning = refl
read_only_meaning at va lit without_target = refl

read_only_purpose : (at va : Place) (lit : Bool) (x : Purpose) → flat_map read_only (row_by_purpose at va lit x) ≡ read_only_value at x
read_only_purpose at va lit for_role = refl
read_only_purpose at va lit as_attached = refl
read_only_purpose at va lit for_target = refl
read_only_purpose at va lit (by_path s) = read_only_meaning at va lit s

read_only_default : (p : Program) (roots : Roots) (d o : ℕ) (at : Place) (x : DefaultProperty) → flat_map read_only (row_of_child p roots d o at x) ≡ read_only_child p roots d o at x
read_only_default p roots d o at no_default = refl
read_only_default p roots d o at (to_property n) = read_only_meaning at at true (meaning_of_path p roots (here d o) (n ∷ []))
read_only_default p roots d o at to_children = refl
read_only_default p roots d o at to_component = refl
read_only_default p roots d o at to_rows = refl

read_only_row : (p : Program) (roots : Roots) (d o : ℕ) (m : WrittenMember) → flat_map read_only (rows_of_member p roots d o m) ≡ read_only_member p roots d o m
read_only_row p roots d o (an_id at n q) = refl
read_only_row p roots d o (a_property at x k n q v) = refl
read_only_row p roots d o (an_alias at x n q target t) = refl
read_only_row p roots d o (a_signal at n q names) = refl
read_only_row p roots d o (a_function at f n q) = refl
read_only_row p roots d o (a_value at path v) = read_only_purpose at (place_of_value p d v) (is_literal_value v) (purpose_of p roots d o path)
read_only_row p roots d o (a_group at path) = refl
read_only_row p roots d o (a_child at n) = read_only_default p roots d o at (default_of p d o)
read_only_row p roots d o (a_stray at) = refl

-- ---- NotLiteral

not_both : (b : Bool) → (b && false) ≡ false
not_both true = refl
not_both false = refl

literal_meaning : (at va : Place) (lit : Bool) (s : PathMeaning) → flat_map not_literal (row_by_meaning at va lit s) ≡ fault_if (wants_literal (by_path s) && not lit) va cause.NotLiteral
literal_meaning at va lit (a_property_of way place k a own) = append-nil (fault_if ((own && is_literal_access a) && not lit) va cause.NotLiteral)
literal_meaning at va lit (an_object_of s) = refl
literal_meaning at va lit (a_handler names) = refl
literal_meaning at va lit (children_of way) = refl
literal_meaning at va lit no_meaning = refl
literal_meaning at va lit without_target = refl

literal_purpose : (at va : Place) (lit : Bool) (x : Purpose) → flat_map not_literal (row_by_purpose at va lit x) ≡ fault_if (wants_literal x && not lit) va cause.NotLiteral
literal_purpose at va lit for_role = append-nil (fault_if (not lit) va cause.NotLiteral)
literal_purpose at va lit as_attached = refl
literal_purpose at va lit for_target = refl
literal_purpose at va lit (by_path s) = literal_meaning at va lit s

no_literal_wanted : (at : Place) (s : PathMeaning) → Path Faults (flat_map not_literal (row_by_meaning at at true s)) []
no_literal_wanted at s = literal_meaning at at true s ∙ ap (λ b. fault_if b at cause.NotLiteral) (not_both (wants_literal (by_path s)))

literal_default : (p : Program) (roots : Roots) (d o : ℕ) (at : Place) (x : DefaultProperty) → Path Faults (flat_map not_literal (row_of_child p roots d o at x)) []
literal_default p roots d o at no_default = refl
literal_default p roots d o at (to_property n) = no_literal_wanted at (meaning_of_path p roots (here d o) (n ∷ []))
literal_default p roots d o at to_children = refl
literal_default p roots d o at to_component = refl
literal_default p roots d o at to_rows = refl

literal_row : (p : Program) (roots : Roots) (d o : ℕ) (m : WrittenMember) → flat_map not_literal (rows_of_member p roots d o m) ≡ not_literal_member p roots d o m
literal_row p roots d o (an_id at n q) = refl
literal_row p roots d o (a_property at x k n q v) = refl
literal_row p roots d o (an_alias at x n q target t) = refl
literal_row p roots d o (a_signal at n q names) = refl
literal_row p roots d o (a_function at f n q) = refl
literal_row p roots d o (a_value at path v) = literal_purpose at (place_of_value p d v) (is_literal_value v) (purpose_of p roots d o path)
literal_row p roots d o (a_group at path) = refl
literal_row p roots d o (a_child at n) = literal_default p roots d o at (default_of p d o)
literal_row p roots d o (a_stray at) = refl

-- ---- a document

abbrev Told : Type 0
Told = ℕ → WrittenMember → Faults

members_alike : (f : ValueRow → Faults) (g : WrittenMember → Faults) (rows : WrittenMember → List ValueRow) → ((m : WrittenMember) → flat_map f (rows m) ≡ g m)
    → (ms : List WrittenMember) → flat_map f (flat_map rows ms) ≡ flat_map g ms
members_alike f g rows h [] = refl
members_alike f g rows h (m ∷ ms) =
    flat_append f (rows m) (flat_map rows ms) ∙ ap (λ faults. faults ++ flat_map f (flat_map rows ms)) (h m) ∙ ap (λ faults. g m ++ faults) (members_alike f g rows h ms)

objects_alike : (p : Program) (roots : Roots) (d o : ℕ) (f : ValueRow → Faults) (g : Told) → ((o : ℕ) (m : WrittenMember) → flat_map f (rows_of_member p roots d o m) ≡ g o m)
    → (ws : List WrittenObject) → flat_map f (rows_from p roots d o ws) ≡ objects_from o ws (λ o w. flat_map (g o) w.members)
objects_alike p roots d o f g h [] = refl
objects_alike p roots d o f g h (w ∷ ws) =
    flat_append f (flat_map (rows_of_member p roots d o) w.members) (rows_from p roots d (suc o) ws) ∙
    ap (λ faults. faults ++ flat_map f (rows_from p roots d (suc o) ws)) (members_alike f (g o) (rows_of_member p roots d o) (h o) w.members) ∙
    ap (λ faults. flat_map (g o) w.members ++ faults) (objects_alike p roots d (suc o) f g h ws)

pub values_alike : (p : Program) (roots : Roots) (d : ℕ) → value_faults (value_rows p roots d) ≡ read_only_values p roots d ++ not_literals p roots d
values_alike p roots d =
    ap (λ faults. faults ++ flat_map not_literal (value_rows p roots d))
    (objects_alike p roots d 0 read_only (read_only_member p roots d) (read_only_row p roots d) (unit_at p d).objects) ∙
    ap (λ faults. read_only_values p roots d ++ faults)
    (objects_alike p roots d 0 not_literal (not_literal_member p roots d) (literal_row p roots d) (unit_at p d).objects)
