-- Faults of aliases, row after row.
use Rattle.std.proofs.Common.{◌≡◌, ◌∙◌, ap, sym, refl, subst, ℕ, suc, ◌+◌, ◌<◌, ◌≤◌, arith, Bool, true, false, List, [], ◌∷◌, ◌++◌, length, map, flat_map, get_or, drop, add-one, drop-cons, Option, Some, None, is_some}
use Rattle.std.specs.Prelude.{◌||◌, slice_get}
use Rattle.std.specs.Option.{option_map, option_and_then, unwrap_or}
use Rattle.std.proofs.Math.ListN.{drop_of_length-le}
use Rattle.std.proofs.lemmas.Bool.{false≢true}
use Rattle.std.proofs.lemmas.List.{map-append}
use Rattle.qml_syntax.specs.Tree.{Units}
use Rattle.qml_syntax.specs.Nodes.{Table}
use Rattle.program_names.specs.declared.fault.Fault.{Fault}
use Rattle.program_names.specs.Written.{OwnedMember}
use Rattle.program_names.specs.Loaded.{Program, unit_at}
use Rattle.program_names.specs.Components.{Roots}
use Rattle.program_names.specs.PathMeanings.{end_of_alias}
use Rattle.document_rows.specs.WholePaths.{path_at}
use Rattle.document_members.specs.declared.member.Member.{Member}
use Rattle.document_members.specs.declared.member.Member.TheVariants as m
use Rattle.document_members.specs.Members.{written_in, added_by}
use Rattle.program_tables.specs.declared.names.UnitNames.{UnitNames}
use Rattle.program_tables.specs.declared.building.UnitRow.{UnitRow}
use Rattle.program_tables.specs.Building.{is_group, is_inside}
use Rattle.program_tables.specs.RowsSay.{RowsSay}
use Rattle.program_tables.specs.Stands.{is_there}
use Rattle.program_tables.proofs.GroupLemmas.{is_filled, inside_alike, filled_by}
use Rattle.load_faults.specs.Faults.{Faults, first_from}
use Rattle.load_faults.proofs.FirstLemmas.{first_from-append}
use Rattle.load_faults.specs.Aliases.{bad_end, bad_alias}
use Rattle.path_ends.specs.declared.aliases.Alias.{Alias}
use Rattle.path_ends.specs.declared.aliases.UnitAliases.{UnitAliases}
use Rattle.path_ends.specs.declared.aliases.UnitIds.{UnitIds}
use Rattle.path_ends.specs.declared.aliases.UnitEnds.{UnitEnds}
use Rattle.path_ends.specs.Said.{joined, alias_in, target_of, SaidAlias, told, said, target_given, told_by, aliases_told}
use Rattle.path_ends.specs.Known.{KnowsAll, Tells}
use Rattle.path_ends.proofs.ProgramLemmas.{alias_as_meant}
use Rattle.alias_faults.specs.BadAliases.{bad_row, bad_rows, bad_written, AreThere}

pub one_row : (known : List UnitEnds) (d : ℕ) (rows : List (Option Alias)) (i : ℕ) (x : Option Alias) (kept kept' all : Option Fault) → i < length rows
    → kept' ≡ first_from kept (bad_row known d i (get_or rows i x)) → first_from kept (bad_rows known d i (drop i rows)) ≡ all
    → first_from kept' (bad_rows known d (i + 1) (drop (i + 1) rows)) ≡ all
one_row known d rows i x kept kept' all h e l =
    ap (λ k. first_from kept' (bad_rows known d k (drop k rows))) (add-one i) ∙
    ap (λ k. first_from k (bad_rows known d (suc i) (drop (suc i) rows))) e ∙
    sym (first_from-append kept (bad_row known d i (get_or rows i x)) (bad_rows known d (suc i) (drop (suc i) rows))) ∙
    ap (λ rs. first_from kept (bad_rows known d i rs)) (sym (drop-cons rows i x h)) ∙ l

pub all_told : (known : List UnitEnds) (d : ℕ) (rows : List (Option Alias)) (i : ℕ) (kept all : Option Fault) → length rows ≤ i
    → first_from kept (bad_rows known d i (drop i rows)) ≡ all → kept ≡ all
all_told known d rows i kept all past e = subst (λ some. first_from kept (bad_rows known d i some) ≡ all) (drop_of_length-le rows past) e

-- ---- one row

abbrev said_faults : Program → Roots → ℕ → Option SaidAlias → Faults
said_faults p roots d None = []
said_faults p roots d (Some s) = bad_end s.at (end_of_alias p roots d s.object s.target)

by_member : (p : Program) (roots : Roots) (d o : ℕ) (t : Table) (before : List Units) (first : ℕ) (x : Member)
    → said_faults p roots d (option_map (told o) (target_given (is_filled before) x)) ≡ bad_alias p roots d o (written_in t before first x)
by_member p roots d o t [] first (m.Alias q b n at target) = refl
by_member p roots d o t (n ∷ ns) first (m.Alias q b name at target) = refl
by_member p roots d o t [] first (m.Id w n at) = refl
by_member p roots d o t (n ∷ ns) first (m.Id w name at) = refl
by_member p roots d o t [] first _ = refl
by_member p roots d o t (n ∷ ns) first _ = refl

module _ (p : Program) (roots : Roots) (us : List UnitNames) (ids : List UnitIds) (aliases : List UnitAliases) (known : List UnitEnds)
    (tells : Tells p roots us ids aliases) (knows : KnowsAll us ids aliases known) (d : ℕ) (t : Table) where
  by_alias : (row : ℕ) (a : Option Alias) → joined (Some a) ≡ alias_in aliases d row → ((s : SaidAlias) → said a ≡ Some s → is_there us d s.object ≡ true)
      → bad_row known d row a ≡ said_faults p roots d (said a)
  by_alias row None i th = refl
  by_alias row (Some a) i th =
      ap (bad_end a.at) (alias_as_meant p roots us ids aliases known tells knows d row a (th (record { object = a.object; at = a.at; target = target_of a }) refl) (sym i))

  -- the object of an alias that a row tells is the row's
  told_there : (inside : Bool) (r : UnitRow) (s : SaidAlias) → told_by inside r ≡ Some s → s.object ≡ r.row.object
  told_there inside r s i = by_target (target_given inside r.member) i
    where
      object_of : ℕ → Option SaidAlias → ℕ
      object_of n None = n
      object_of n (Some s) = s.object

      by_target : (x : _) → option_map (told r.row.object) x ≡ Some s → s.object ≡ r.row.object
      by_target None i = absurd (false≢true (ap is_some i))
      by_target (Some x) i = sym (ap (object_of 0) i)

  all_rows : (n : ℕ) (grouping : List Bool) (paths : List (List Units)) (own : List (Option Alias)) (rows : List UnitRow) (ws : List OwnedMember)
      → RowsSay p d t paths rows ws → grouping ≡ map is_filled paths → map said own ≡ aliases_told grouping rows
      → ((k : ℕ) (a : Option Alias) → slice_get own k ≡ Some a → joined (Some a) ≡ alias_in aliases d (n + k))
      → ((k : ℕ) (w : OwnedMember) → slice_get ws k ≡ Some w → is_there us d w.object ≡ true)
      → bad_rows known d n own ≡ flat_map (λ (w : OwnedMember). bad_alias p roots d w.object w.member) ws
  all_rows n grouping paths [] [] [] s e i k h = refl
  all_rows n grouping paths (a ∷ own) [] ws s e i k h = absurd (too_long i)
    where
      too_long : map said (a ∷ own) ≡ [] → ⊥
      too_long i = absurd (no_end (ap length i))
        where
          no_end : {l : ℕ} → suc l ≡ 0 → ⊥
          no_end i = omega arith
  all_rows n grouping paths [] (r ∷ rs) ws s e i k h = absurd (too_short (ap length i))
    where
      too_short : {l : ℕ} → 0 ≡ suc l → ⊥
      too_short i = omega arith
  all_rows n grouping paths [] [] (w ∷ ws) s e i k h = absurd s
  all_rows n grouping paths (a ∷ own) (r ∷ rs) [] s e i k h = absurd s
  all_rows n grouping paths (a ∷ own) (r ∷ rs) (w ∷ ws) s e i k h =
      let before = path_at paths r.row.group in
      let inside : is_inside grouping r.row.group ≡ is_filled before = ap (λ g. is_inside g r.row.group) e ∙ inside_alike paths r.row.group in
      let says : said a ≡ told_by (is_inside grouping r.row.group) r = ap (λ xs. unwrap_or (slice_get xs 0) None) i in
      ap (λ fs. fs ++ bad_rows known d (suc n) own)
      (by_alias n a (k 0 a refl ∙ ap (alias_in aliases d) (no_more n))
      (λ x j. ap (is_there us d) (told_there (is_inside grouping r.row.group) r x (sym says ∙ j) ∙ s.0.object) ∙ h 0 w refl) ∙
      ap (said_faults p roots d) (says ∙ ap (λ b. told_by b r) inside ∙ ap (λ o. option_map (told o) (target_given (is_filled before) r.member)) s.0.object) ∙
      by_member p roots d w.object t before r.row.first r.member ∙
      ap (bad_alias p roots d w.object) s.0.member) ∙
      ap (λ fs. bad_alias p roots d w.object w.member ++ fs)
      (all_rows (suc n) (grouping ++ (is_inside grouping r.row.group || is_group r.member) ∷ []) (paths ++ (before ++ added_by r.member) ∷ []) own rs ws s.1
      (ap (λ g. g ++ (is_inside grouping r.row.group || is_group r.member) ∷ []) e ∙
      ap (λ b. map is_filled paths ++ b ∷ []) (ap (λ b. b || is_group r.member) inside ∙ sym (filled_by before r.member)) ∙
      sym (map-append is_filled paths ((before ++ added_by r.member) ∷ [])))
      (ap (drop 1) i)
      (λ j x q. k (suc j) x q ∙ ap (alias_in aliases d) (one_on n j))
      (λ j x q. h (suc j) x q))
    where
      no_more : (n : ℕ) → n + 0 ≡ n
      no_more n = omega arith

      one_on : (n j : ℕ) → n + suc j ≡ suc n + j
      one_on n j = omega arith

  pub bad_as_written : (unit : UnitAliases) (rows : List UnitRow) → slice_get aliases d ≡ Some unit → RowsSay p d t [] rows (unit_at p d).rows → map said unit.rows.items ≡ aliases_told [] rows
      → AreThere p us d → bad_rows known d 0 unit.rows.items ≡ bad_written p roots d
  bad_as_written unit rows i s l h =
      all_rows 0 [] [] unit.rows.items rows (unit_at p d).rows s refl l (λ k a j. in_unit k a j) (λ k w j. h w k j)
    where
      none_more : (k : ℕ) → k ≡ 0 + k
      none_more k = omega arith

      in_unit : (k : ℕ) (a : Option Alias) → slice_get unit.rows.items k ≡ Some a → joined (Some a) ≡ alias_in aliases d (0 + k)
      in_unit k a j =
          ap joined (sym j) ∙ ap (λ x. option_and_then (λ (u : UnitAliases). joined (slice_get u.rows.items k)) x) (sym i) ∙
          ap (alias_in aliases d) (none_more k)
