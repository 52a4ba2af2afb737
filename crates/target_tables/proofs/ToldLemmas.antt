-- Tables of targets that are made from the rows of all documents are those of the program.
use Rattle.std.proofs.Common.{◌≡◌, ◌∙◌, ap, sym, refl, subst, inl, inr, ℕ, zero, suc, ◌<◌, ◌≤◌, arith, Bool, true, false, List, [], ◌∷◌, ◌++◌, length, map, Option, Some, None, is_some}
use Rattle.std.specs.Prelude.{◌⊎◌, nat_eq, if◌then◌else◌, slice_get}
use Rattle.std.specs.Option.{option_map, option_and_then, unwrap_or}
use Rattle.std.proofs.lemmas.Bool.{false≢true, cases_lt}
use Rattle.std.proofs.lemmas.Bool.Decides.{nat_tests}
use Rattle.qml_syntax.specs.Nodes.{Table}
use Rattle.qml_syntax.specs.Places.{part_at}
use Rattle.program_names.specs.Written.{WrittenObject, WrittenValue, OwnedMember}
use Rattle.program_names.specs.Loaded.{Program, unit_at, object_at, no_object}
use Rattle.program_names.specs.Components.{Roots}
use Rattle.program_names.specs.ComponentRoots.{target_in, id_of}
use Rattle.document_rows.specs.WrittenObjects.{members_of_object}
use Rattle.program_tables.specs.declared.names.UnitNames.{UnitNames}
use Rattle.program_tables.specs.Stands.{is_there, Stands}
use Rattle.path_ends.specs.declared.aliases.UnitIds.{UnitIds}
use Rattle.alias_faults.specs.Targets.{seen_by}
use Rattle.change_targets.specs.declared.walking.UnitTargets.{UnitTargets}
use Rattle.change_targets.specs.Targets.{named_at}
use Rattle.change_targets.specs.Told.{TargetsTold}
use Rattle.target_tables.specs.declared.firsts.GivenValue.{GivenValue}
use Rattle.target_tables.specs.Names.{name_in}
use Rattle.target_tables.specs.Firsts.{Firsts, none_given, firsts_added, first_at}
use Rattle.target_tables.specs.Seen.{target_by, HasRow, SaysObjects, SaysTargets}
use Rattle.target_tables.proofs.FirstLemmas.{value_of, first_as_meant, firsts_long}
use Rattle.target_tables.proofs.NameLemmas.{alone}
use Rattle.target_tables.proofs.SeekingLemmas.{named_alike, named_there}

same_number : (a c : ℕ) → nat_eq a c ≡ true → a ≡ c
same_number a c h = grind (arith, nat_tests)

-- an object that gives something has a member
gives_row : (ws : List OwnedMember) (o : ℕ) → is_some (target_in (members_of_object o ws)) ≡ true → (k : ℕ) × (w : OwnedMember) × (slice_get ws k ≡ Some w) × (w.object ≡ o)
gives_row [] o h = absurd (false≢true h)
gives_row (w ∷ ws) o h = by_own (λ g. gives_row ws o g) (nat_eq w.object o) refl
  where
    later : ((k : ℕ) × (v : OwnedMember) × (slice_get ws k ≡ Some v) × (v.object ≡ o)) → (k : ℕ) × (v : OwnedMember) × (slice_get (w ∷ ws) k ≡ Some v) × (v.object ≡ o)
    later x = (suc x.0, x.1, x.2, x.3)

    by_own : (is_some (target_in (members_of_object o ws)) ≡ true → (k : ℕ) × (v : OwnedMember) × (slice_get ws k ≡ Some v) × (v.object ≡ o)) → (own : Bool) → nat_eq w.object o ≡ own
        → (k : ℕ) × (v : OwnedMember) × (slice_get (w ∷ ws) k ≡ Some v) × (v.object ≡ o)
    by_own further true e = (0, w, refl, same_number w.object o e)
    by_own further false e = later (further (ap (λ b. is_some (target_in ((if b then w.member ∷ [] else []) ++ members_of_object o ws))) (sym e) ∙ h))

none_past : (all : Firsts) (o : ℕ) → length all ≤ o → Path (Option GivenValue) (first_at all o) None
none_past [] o h = refl
none_past (x ∷ all) zero h = absurd (omega arith)
none_past (x ∷ all) (suc o) h = let less : length all ≤ o = omega arith in none_past all o less

no_members_past : (ws : List WrittenObject) (o : ℕ) → length ws ≤ o → (unwrap_or (slice_get ws o) no_object).members ≡ []
no_members_past [] o h = refl
no_members_past (w ∷ ws) zero h = absurd (omega arith)
no_members_past (w ∷ ws) (suc o) h = let less : length ws ≤ o = omega arith in no_members_past ws o less

-- what is told of one object: the object that it names, which is there
abbrev Told : Program → Roots → List UnitNames → ℕ → ℕ → Option ℕ → Type 0
Told p roots us d o x = (x ≡ option_and_then (id_of p roots d o) (target_in (object_at p d o).members)) × ((t : ℕ) → x ≡ Some t → is_there us d t ≡ true)

none_told : (p : Program) (roots : Roots) (us : List UnitNames) (d o : ℕ) (x : Option ℕ) → x ≡ None → Path (Option WrittenValue) (target_in (object_at p d o).members) None → Told p roots us d o x
none_told p roots us d o x e h =
    (e ∙ ap (option_and_then (id_of p roots d o)) (sym h), λ t i. absurd (false≢true (ap is_some (sym e ∙ i))))

module _ (p : Program) (roots : Roots) (us : List UnitNames) (ids : UnitIds) (owners : List (Option ℕ)) (d : ℕ) (stands : Stands p us) (says : SaysObjects p roots us ids owners d) (t : Table) where
  some_told : (o : ℕ) (x : GivenValue) → target_in (object_at p d o).members ≡ Some (value_of t x) → HasRow p d o → Told p roots us d o (target_by us ids owners d t o (Some x))
  some_told o x e h = (
    ap (seen_by us ids owners d o) (alone (part_at t x.node) x.first) ∙ named_alike p roots us ids owners d stands says o (value_of t x) h ∙ ap (option_and_then (id_of p roots d o)) (sym e),
    λ k i. named_there p roots us ids owners d stands says o (name_in (part_at t x.node)) h k i,
  )

  first_told : (o : ℕ) (x : Option GivenValue) → option_map (value_of t) x ≡ target_in (members_of_object o (unit_at p d).rows)
      → (object_at p d o).members ≡ members_of_object o (unit_at p d).rows → Told p roots us d o (target_by us ids owners d t o x)
  first_told o None e same = none_told p roots us d o None refl (ap target_in same ∙ sym e)
  first_told o (Some x) e same = some_told o x (ap target_in same ∙ sym e) (gives_row (unit_at p d).rows o (ap is_some (sym e)))

object_told : (p : Program) (roots : Roots) (us : List UnitNames) (ts : List UnitTargets) (d : ℕ) (unit : UnitNames) → Stands p us → SaysTargets p roots us ts d unit → (o : ℕ) → Told p roots us d o (named_at ts d o)
object_told p roots us ts d unit stands s o =
    subst (Told p roots us d o) (sym found) (by_place (cases_lt o (length s.owners)))
  where
    firsts : Firsts
    firsts = firsts_added [] s.says.rows (map none_given s.owners)

    found : named_at ts d o ≡ target_by us s.ids s.owners d s.says.tree o (first_at firsts o)
    found =
        ap (λ y. option_and_then (λ (u : UnitTargets). unwrap_or (slice_get u.objects.items o) None) y) s.kept ∙
        s.made o

    further : length (unit_at p d).objects ≤ length s.owners → length s.owners ≤ o → length (unit_at p d).objects ≤ o
    further h g = omega arith

    by_place : (o < length s.owners) ⊎ (length s.owners ≤ o) → Told p roots us d o (target_by us s.ids s.owners d s.says.tree o (first_at firsts o))
    by_place (inl l) =
        first_told p roots us s.ids s.owners d stands s.objects s.says.tree o (first_at firsts o)
        (first_as_meant p d o s.says.tree s.owners s.says.rows (unit_at p d).rows s.says.says l) (s.says.members o)
    by_place (inr l) =
        none_told p roots us d o (target_by us s.ids s.owners d s.says.tree o (first_at firsts o))
        (ap (target_by us s.ids s.owners d s.says.tree o) (none_past firsts o (subst (λ n. n ≤ o) (sym (firsts_long s.says.rows s.owners)) l)))
        (ap target_in (no_members_past (unit_at p d).objects o (further s.objects.covers l)))

unit_there : (us : List UnitNames) (d o : ℕ) → is_there us d o ≡ true → (unit : UnitNames) × (slice_get us d ≡ Some unit)
unit_there us d o l = by_unit (slice_get us d) refl l
  where
    by_unit : (y : Option UnitNames) → slice_get us d ≡ y → is_some (option_and_then (λ (unit : UnitNames). slice_get unit.objects.items o) y) ≡ true → (unit : UnitNames) × (slice_get us d ≡ Some unit)
    by_unit (Some unit) e g = (unit, e)
    by_unit None e g = absurd (false≢true g)

pub all_told : (p : Program) (roots : Roots) (us : List UnitNames) (ts : List UnitTargets) → Stands p us → ((d : ℕ) (unit : UnitNames) → slice_get us d ≡ Some unit → SaysTargets p roots us ts d unit)
    → TargetsTold p roots us ts
all_told p roots us ts stands all d o l =
    let x = unit_there us d o l in object_told p roots us ts d x.0 stands (all d x.0 x.1) o
