-- Ids and aliases of all documents.
use Rattle.std.proofs.Common.{◌≡◌, ◌∙◌, ap, sym, refl, subst, inl, inr, ℕ, zero, suc, ◌+◌, ◌<◌, ◌≤◌, arith, add-one, Bool, true, false, if◌then◌else◌, List, [], ◌∷◌, ◌++◌, length, map, take, get_or, Option, Some, None}
use Rattle.std.specs.Prelude.{slice_get, ◌⊎◌}
use Rattle.std.specs.Option.{unwrap_or}
use Rattle.qml_syntax.specs.Tree.{document}
use Rattle.program_names.specs.Written.{WrittenObject, OwnedMember}
use Rattle.program_names.specs.Reading.{is_document}
use Rattle.program_names.specs.Loaded.{Program, Unit as AUnit, unit_at, no_unit}
use Rattle.program_names.specs.Components.{root_within}
use Rattle.program_names.specs.ComponentRoots.{roots_of}
use Rattle.document_rows.specs.declared.rows.ObjectRow.{ObjectRow}
use Rattle.program_tables.specs.declared.building.UnitRow.{UnitRow}
use Rattle.program_tables.specs.declared.names.UnitNames.{UnitNames}
use Rattle.program_tables.specs.RowsSay.{RowsSay}
use Rattle.alias_tables.specs.Roots.{begins_at, root_at, roots_after}
use Rattle.alias_tables.specs.Ids.{no_ids, ids_added, KnowsRoots}
use Rattle.document_tables.specs.declared.program.DocumentTable.{DocumentTable}
use Rattle.document_tables.specs.declared.program.ProgramTables.{ProgramTables}
use Rattle.document_tables.specs.Tables.{Tells, OfDocument, OfNothing, IsWritten, TellProgram, tree_in}
use Rattle.document_tables.proofs.ThereLemmas.{object_there, rows_there, rows_below, row_there}
use Rattle.path_ends.specs.declared.aliases.UnitAliases.{UnitAliases}
use Rattle.path_ends.specs.declared.aliases.UnitIds.{UnitIds}
use Rattle.path_ends.specs.Said.{aliases_told}
use Rattle.path_ends.specs.Known.{KnowsAll, SaysUnit, SaysIds, Tells as TellsPaths}
use Rattle.path_ends.proofs.ToldLemmas.{aliases_told_all, ids_told_all}
use Rattle.path_ends.proofs.CountLemmas.{few_aliases}
use Rattle.component_roots.proofs.RoleLemmas.{objects_say}
use Rattle.document_components.specs.Made.{owners_of, Decided, AreIds}
use Rattle.document_components.proofs.MadeLemmas.{none_some, none_outside, less_or_not, in_list, there_less, says_ids}
use Rattle.program_paths.specs.declared.paths.ProgramPaths.{ProgramPaths}
use Rattle.program_paths.specs.Paths.{IdsOf, AliasesOf, AllIds, AllAliases, HasPaths, MadePaths, ArePaths}

-- ---- one document more

one_on : (n k : ℕ) → suc n + k ≡ n + suc k
one_on n k = omega arith

last_ids : (us : List UnitNames) (n : ℕ) (sources : List DocumentTable) (i : ℕ) (x : DocumentTable) (ids : List UnitIds) (y : UnitIds) → i < length sources → AllIds us n (take i sources) ids
    → IdsOf us (n + i) (get_or sources i x) (Some y) → AllIds us n (take (suc i) sources) (ids ++ y ∷ [])
last_ids us n [] i x ids y h a g = absurd (omega arith)
last_ids us n (s ∷ sources) zero x [] y h a g = (subst (λ d. IdsOf us d s (Some y)) (no_more n) g, tt)
  where
    no_more : (n : ℕ) → n + 0 ≡ n
    no_more n = omega arith
last_ids us n (s ∷ sources) zero x (z ∷ ids) y h a g = absurd a
last_ids us n (s ∷ sources) (suc i) x [] y h a g = absurd a
last_ids us n (s ∷ sources) (suc i) x (z ∷ ids) y h a g =
    let less : i < length sources = omega arith in
    (a.0, last_ids us (suc n) sources i x ids y less a.1 (subst (λ d. IdsOf us d (get_or sources i x) (Some y)) (sym (one_on n i)) g))

pub one_more : (us : List UnitNames) (sources : List DocumentTable) (i : ℕ) (x : DocumentTable) (ids after : List UnitIds) (found : Option UnitIds) (y : UnitIds) → i < length sources
    → AllIds us 0 (take i sources) ids → IdsOf us i (get_or sources i x) found → found ≡ Some y → after ≡ ids ++ y ∷ [] → AllIds us 0 (take (i + 1) sources) after
one_more us sources i x ids after found y h a g e f =
    subst (AllIds us 0 (take (i + 1) sources)) (sym f)
    (subst (λ k. AllIds us 0 (take k sources) (ids ++ y ∷ [])) (sym (add-one i))
    (last_ids us 0 sources i x ids y h a (subst (λ d. IdsOf us d (get_or sources i x) (Some y)) (sym (from_none i)) (subst (IdsOf us i (get_or sources i x)) e g))))
  where
    from_none : (k : ℕ) → 0 + k ≡ k
    from_none k = omega arith

pub none_done : (us : List UnitNames) (sources : List DocumentTable) (ids : List UnitIds) → ids ≡ [] → AllIds us 0 (take 0 sources) ids
none_done us sources ids e = subst (AllIds us 0 (take 0 sources)) (sym e) (nothing sources)
  where
    nothing : (sources : List DocumentTable) → AllIds us 0 (take 0 sources) []
    nothing [] = tt
    nothing (s ∷ sources) = tt

take_all : {A : Type 0} (xs : List A) (i : ℕ) → length xs ≤ i → take i xs ≡ xs
take_all [] zero h = refl
take_all [] (suc i) h = refl
take_all (x ∷ xs) zero h = absurd (omega arith)
take_all (x ∷ xs) (suc i) h = let less : length xs ≤ i = omega arith in ap (λ ys. x ∷ ys) (take_all xs i less)

pub ids_done : (us : List UnitNames) (sources : List DocumentTable) (i : ℕ) (ids : List UnitIds) → length sources ≤ i → AllIds us 0 (take i sources) ids → AllIds us 0 sources ids
ids_done us sources i ids h a = subst (λ xs. AllIds us 0 xs ids) (take_all sources i h) a

last_aliases : (sources : List DocumentTable) (i : ℕ) (x : DocumentTable) (all : List UnitAliases) (y : UnitAliases) → i < length sources → AllAliases (take i sources) all → AliasesOf (get_or sources i x) y
    → AllAliases (take (suc i) sources) (all ++ y ∷ [])
last_aliases [] i x all y h a g = absurd (omega arith)
last_aliases (s ∷ sources) zero x [] y h a g = (g, tt)
last_aliases (s ∷ sources) zero x (z ∷ all) y h a g = absurd a
last_aliases (s ∷ sources) (suc i) x [] y h a g = absurd a
last_aliases (s ∷ sources) (suc i) x (z ∷ all) y h a g = let less : i < length sources = omega arith in (a.0, last_aliases sources i x all y less a.1 g)

pub one_more_unit : (sources : List DocumentTable) (i : ℕ) (x : DocumentTable) (all after : List UnitAliases) (y : UnitAliases) → i < length sources → AllAliases (take i sources) all
    → AliasesOf (get_or sources i x) y → after ≡ all ++ y ∷ [] → AllAliases (take (i + 1) sources) after
one_more_unit sources i x all after y h a g f =
    subst (AllAliases (take (i + 1) sources)) (sym f) (subst (λ k. AllAliases (take k sources) (all ++ y ∷ [])) (sym (add-one i)) (last_aliases sources i x all y h a g))

pub no_aliases : (sources : List DocumentTable) (all : List UnitAliases) → all ≡ [] → AllAliases (take 0 sources) all
no_aliases sources all e = subst (AllAliases (take 0 sources)) (sym e) (nothing sources)
  where
    nothing : (sources : List DocumentTable) → AllAliases (take 0 sources) []
    nothing [] = tt
    nothing (s ∷ sources) = tt

pub aliases_done : (sources : List DocumentTable) (i : ℕ) (all : List UnitAliases) → length sources ≤ i → AllAliases (take i sources) all → AllAliases sources all
aliases_done sources i all h a = subst (λ xs. AllAliases xs all) (take_all sources i h) a

pub are_paths : (us : List UnitNames) (sources : List DocumentTable) (ids : List UnitIds) (made : ProgramPaths) → made.ids.items ≡ ids → AllAliases sources made.aliases.items
    → KnowsAll us made.ids.items made.aliases.items made.ends.items → HasPaths us sources ids made
are_paths us sources ids made s t k = record { same = s; told = t; known = k }

-- ---- one of them

ids_at : (us : List UnitNames) (n : ℕ) (sources : List DocumentTable) (ids : List UnitIds) → AllIds us n sources ids → (d : ℕ) (x : DocumentTable) → slice_get sources d ≡ Some x
    → (y : UnitIds) × (slice_get ids d ≡ Some y) × IdsOf us (n + d) x (Some y)
ids_at us n [] ids a d x e = none_some x e
ids_at us n (s ∷ sources) [] a d x e = absurd a
ids_at us n (s ∷ sources) (y ∷ ids) a zero x e =
    (y, refl, subst (λ k. IdsOf us k x (Some y)) (no_more n) (subst (λ z. IdsOf us n z (Some y)) (ap (λ v. unwrap_or v x) e) a.0))
  where
    no_more : (n : ℕ) → n ≡ n + 0
    no_more n = omega arith
ids_at us n (s ∷ sources) (y ∷ ids) a (suc d) x e =
    let z = ids_at us (suc n) sources ids a.1 d x e in (z.0, z.1, subst (λ k. IdsOf us k x (Some z.0)) (one_on n d) z.2)

pub aliases_at : (sources : List DocumentTable) (all : List UnitAliases) → AllAliases sources all → (d : ℕ) (x : DocumentTable) → slice_get sources d ≡ Some x
    → (y : UnitAliases) × (slice_get all d ≡ Some y) × AliasesOf x y
aliases_at [] all a d x e = none_some x e
aliases_at (s ∷ sources) [] a d x e = absurd a
aliases_at (s ∷ sources) (y ∷ all) a zero x e = (y, refl, subst (λ z. AliasesOf z y) (ap (λ v. unwrap_or v x) e) a.0)
aliases_at (s ∷ sources) (y ∷ all) a (suc d) x e = aliases_at sources all a.1 d x e

pub aliases_long : (sources : List DocumentTable) (all : List UnitAliases) → AllAliases sources all → length all ≡ length sources
aliases_long [] [] a = refl
aliases_long [] (y ∷ all) a = absurd a
aliases_long (s ∷ sources) [] a = absurd a
aliases_long (s ∷ sources) (y ∷ all) a = ap suc (aliases_long sources all a.1)

pub ids_long : (us : List UnitNames) (n : ℕ) (sources : List DocumentTable) (ids : List UnitIds) → AllIds us n sources ids → length ids ≡ length sources
ids_long us n [] [] a = refl
ids_long us n [] (y ∷ ids) a = absurd a
ids_long us n (s ∷ sources) [] a = absurd a
ids_long us n (s ∷ sources) (y ∷ ids) a = ap suc (ids_long us (suc n) sources ids a.1)

-- ---- a file that is no document

zero_either : (b : Bool) → Path ℕ (if b then 0 else 0) 0
zero_either true = refl
zero_either false = refl

root_alone : (o : ℕ) → root_at (0 ∷ []) o ≡ 0
root_alone zero = refl
root_alone (suc o) = refl

alone_root : (us : List UnitNames) (d : ℕ) (rows : List UnitRow) (objects : List ObjectRow) (own : UnitIds) → Decided us d rows objects own → objects ≡ record { node = 0; row = None } ∷ [] → own.roots.items ≡ 0 ∷ []
alone_root us d rows objects own made e =
    made.is_made.roots ∙ ap (λ os. roots_after made.begins.items [] 0 (owners_of rows os)) e ∙ ap (λ r. r ∷ []) (zero_either (begins_at made.begins.items 0))

no_rows_there : {X : Type 0} (ws : List OwnedMember) → ws ≡ [] → (k : ℕ) (w : OwnedMember) → slice_get ws k ≡ Some w → X
no_rows_there ws e k w i = none_some w (sym (ap (λ rs. slice_get rs k) e) ∙ i)

no_document : (p : Program) (us : List UnitNames) (ids : List UnitIds) (d : ℕ) (unit : UnitNames) (rows : List UnitRow) (objects : List ObjectRow) (own : UnitIds)
    → OfNothing (unit_at p d) objects rows → length objects ≡ length unit.objects.items → slice_get ids d ≡ Some own → Decided us d rows objects own → SaysIds p (roots_of p) us ids d unit
no_document p us ids d unit rows objects own w long kept made =
    let roots : own.roots.items ≡ 0 ∷ [] = alone_root us d rows objects own made w.alone in
    record {
      tree = [];
      rows = [];
      says = subst (λ ws. RowsSay p d [] [] [] ws) (sym w.no_members) tt;
      own = own;
      kept = kept;
      made = made.is_made.ids ∙ ap (λ rs. ids_added own.roots.items [] rs (map no_ids own.roots.items)) w.no_rows;
      knows = λ k x i. no_rows_there (unit_at p d).rows w.no_members k x i;
      long = ap length roots ∙ sym (ap length w.alone) ∙ long;
      told_roots = λ o less. (
        ap (λ rs. root_at rs o) roots ∙ root_alone o ∙ sym (ap (λ (ws : List WrittenObject). root_within (length ws) p (roots_of p) d o) w.none),
        subst (λ rs. root_at rs o < length rs) (sym roots) (subst (λ n. n < 1) (sym (root_alone o)) one),
      );
      there = λ k x i. no_rows_there (unit_at p d).rows w.no_members k x i;
    }
  where
    one : 0 < 1
    one = omega arith

-- ---- all

from_none : (k : ℕ) → 0 + k ≡ k
from_none k = omega arith

module _ (p : Program) (tables : ProgramTables) (made : ProgramPaths) (h : TellProgram p tables) (are : MadePaths tables.names.units.items tables.documents.items made) where
  abbrev us : List UnitNames
  us = tables.names.units.items

  abbrev xs : List DocumentTable
  xs = tables.documents.items

  abbrev Told : ℕ → UnitNames → Type 0
  Told d unit = (x : DocumentTable) × (slice_get xs d ≡ Some x) × Tells p d (tree_in x.content.value) unit x.rows.items x.inside.items

  told : (d : ℕ) (unit : UnitNames) → slice_get us d ≡ Some unit → Told d unit
  told d unit e =
      let x = in_list xs d (subst (λ n. d < n) (h.stands.long ∙ sym h.long) (there_less us d unit e)) in
      let t = h.tells d x.0 x.1 in
      (x.0, x.1, subst (λ n. Tells p d (tree_in x.0.content.value) n x.0.rows.items x.0.inside.items) (ap (λ v. unwrap_or v unit) (sym t.1 ∙ e)) t.2)

  range : (d k : ℕ) (w : OwnedMember) → slice_get (unit_at p d).rows k ≡ Some w → w.object < length (unit_at p d).objects
  range d k w i = by_place (less_or_not d (length p))
    where
      by_place : (d < length p) ⊎ (length p ≤ d) → w.object < length (unit_at p d).objects
      by_place (inl l) =
          let u = in_list us d (subst (λ n. d < n) (sym h.stands.long) l) in
          rows_below p d (told d u.0 u.1).2.unit.members k w i
      by_place (inr l) = no_rows_there (unit_at p d).rows (ap (λ (o : Option AUnit). (unwrap_or o no_unit).rows) (none_outside p d l)) k w i

  unit_told : (d : ℕ) (unit : UnitNames) → slice_get us d ≡ Some unit → SaysUnit p made.aliases.items d unit
  unit_told d unit e =
      let s = told d unit e in
      let a = aliases_at xs made.aliases.items are.paths.told d s.0 s.1 in
      record { says = s.2.unit; own = a.0; kept = a.1; told = a.2 ∙ ap (aliases_told []) (sym s.2.made) }

  of_document : (d : ℕ) (unit : UnitNames) (e : slice_get us d ≡ Some unit) (x : DocumentTable) (g : slice_get xs d ≡ Some x) (t : Tells p d (tree_in x.content.value) unit x.rows.items x.inside.items)
      → OfDocument (unit_at p d) (tree_in x.content.value) x.objects.items x.rows.items → (own : UnitIds) → slice_get made.ids.items d ≡ Some own
      → AreIds us d x.rows.items x.objects.items (Some own) → SaysIds p (roots_of p) us made.ids.items d unit
  of_document d unit e x g t w own kept ids =
      let says : RowsSay p d t.unit.tree [] x.rows.items (unit_at p d).rows = subst (λ rs. RowsSay p d t.unit.tree [] rs (unit_at p d).rows) t.made t.unit.says in
      let long : length x.objects.items ≡ length unit.objects.items = h.objects d x unit g e in
      says_ids p us made.ids.items d unit own t.unit.tree x.rows.items x.objects.items w.file (is_document (document w.are.imports w.are.root)) h.stands w.same says
      (objects_say p us d w.file (tree_in x.content.value) x.objects.items x.rows.items w.are w.same w.read
      (λ o l. object_there us d o unit e (subst (λ n. o < n) long l))
      (λ k r i. row_there p d us t.unit.tree [] x.rows.items (unit_at p d).rows says (rows_there p d us (tree_in x.content.value) unit x.rows.items x.inside.items e t) k r i))
      long (range d) kept ids

  ids_said : (d : ℕ) (unit : UnitNames) → slice_get us d ≡ Some unit → SaysIds p (roots_of p) us made.ids.items d unit
  ids_said d unit e =
      let s = told d unit e in
      let y = ids_at us 0 xs made.ids.items are.ids d s.0 s.1 in
      by_written s.0 s.1 s.2 y.0 y.1 (subst (λ k. AreIds us k s.0.rows.items s.0.objects.items (Some y.0)) (from_none d) y.2) (h.written d s.0 s.1)
    where
      by_written : (x : DocumentTable) (g : slice_get xs d ≡ Some x) (t : Tells p d (tree_in x.content.value) unit x.rows.items x.inside.items) (own : UnitIds) → slice_get made.ids.items d ≡ Some own
          → AreIds us d x.rows.items x.objects.items (Some own) → IsWritten (unit_at p d) (tree_in x.content.value) x.objects.items x.rows.items → SaysIds p (roots_of p) us made.ids.items d unit
      by_written x g t own kept ids (inl w) = of_document d unit e x g t w own kept ids
      by_written x g t own kept ids (inr w) = no_document p us made.ids.items d unit x.rows.items x.objects.items own w (h.objects d x unit g e) kept ids

  pub tells : TellsPaths p (roots_of p) us made.ids.items made.aliases.items
  tells = record {
    stands = h.stands;
    told_aliases = aliases_told_all p us made.aliases.items unit_told;
    few = few_aliases p us made.aliases.items h.stands.long (aliases_long xs made.aliases.items are.paths.told ∙ h.long) unit_told range;
    told_ids = ids_told_all p (roots_of p) us made.ids.items ids_said;
  }

  pub knows_roots : (d : ℕ) (own : UnitIds) → slice_get made.ids.items d ≡ Some own → KnowsRoots p (roots_of p) d own.roots.items
  knows_roots d own e =
      let u = in_list us d (subst (λ n. d < n) (ids_long us 0 xs made.ids.items are.ids ∙ h.long ∙ sym h.stands.long) (there_less made.ids.items d own e)) in
      let s = ids_said d u.0 u.1 in
      subst (λ (i : UnitIds). KnowsRoots p (roots_of p) d i.roots.items) (ap (λ v. unwrap_or v own) (sym s.kept ∙ e)) s.knows

pub all_tell : (p : Program) (tables : ProgramTables) (made : ProgramPaths) → TellProgram p tables → ArePaths tables.names.units.items tables.documents.items (Some made)
    → TellsPaths p (roots_of p) tables.names.units.items made.ids.items made.aliases.items
all_tell p tables made h are = tells p tables made h are

pub all_roots : (p : Program) (tables : ProgramTables) (made : ProgramPaths) (d : ℕ) (own : UnitIds) → TellProgram p tables → ArePaths tables.names.units.items tables.documents.items (Some made)
    → slice_get made.ids.items d ≡ Some own → KnowsRoots p (roots_of p) d own.roots.items
all_roots p tables made d own h are e = knows_roots p tables made h are d own e
