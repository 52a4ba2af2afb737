-- Handlers and targets that are made from the tables of a program are the program's.
use Rattle.std.proofs.Common.{◌≡◌, ◌∙◌, ap, sym, refl, subst, inl, inr, ℕ, zero, suc, ◌+◌, ◌<◌, ◌≤◌, arith, Bool, List, [], ◌∷◌, length, map, Option, Some, None}
use Rattle.std.specs.Prelude.{◌⊎◌, slice_get, ltb}
use Rattle.std.specs.Option.{unwrap_or}
use Rattle.std.proofs.lemmas.Bool.{cond-false, le-ltb}
use Rattle.qml_syntax.specs.Tree.{document}
use Rattle.qml_syntax.specs.Nodes.{mark, Table}
use Rattle.qml_syntax.specs.Opened.{item_at}
use Rattle.qml_syntax.specs.Places.{part_at}
use Rattle.program_names.specs.Written.{WrittenObject, OwnedMember}
use Rattle.program_names.specs.Reading.{is_document}
use Rattle.program_names.specs.Loaded.{Program, unit_at}
use Rattle.program_names.specs.ComponentRoots.{roots_of}
use Rattle.document_rows.specs.declared.rows.ObjectRow.{ObjectRow}
use Rattle.file_sources.specs.declared.content.Content.{Content}
use Rattle.file_sources.specs.declared.content.Content.TheVariants as content
use Rattle.program_tables.specs.declared.building.UnitRow.{UnitRow}
use Rattle.program_tables.specs.declared.names.UnitNames.{UnitNames}
use Rattle.program_tables.specs.RowsSay.{RowsSay}
use Rattle.path_ends.specs.declared.aliases.UnitIds.{UnitIds}
use Rattle.path_ends.specs.Known.{Tells as TellsIds}
use Rattle.alias_tables.specs.Ids.{KnowsRoots}
use Rattle.alias_faults.specs.Targets.{seen_by}
use Rattle.component_roots.proofs.RoleLemmas.{objects_say}
use Rattle.document_components.specs.Made.{owners_of, Decided, AreIds}
use Rattle.document_components.proofs.MadeLemmas.{none_some, in_list, there_less, map_long}
use Rattle.document_tables.specs.declared.program.DocumentTable.{DocumentTable}
use Rattle.document_tables.specs.declared.program.ProgramTables.{ProgramTables}
use Rattle.document_tables.specs.Tables.{Tells, OfDocument, OfNothing, IsWritten, TellProgram, tree_in}
use Rattle.document_tables.proofs.ThereLemmas.{object_there, rows_there, rows_below, row_there}
use Rattle.program_paths.specs.declared.paths.ProgramPaths.{ProgramPaths}
use Rattle.program_paths.specs.Paths.{IdsOf, AllIds, MadePaths, ArePaths}
use Rattle.program_paths.proofs.PathsLemmas.{all_tell, all_roots}
use Rattle.handler_names.specs.declared.declared.UnitHandlers.{UnitHandlers}
use Rattle.handler_names.specs.Handlers.{no_handlers, handlers_added}
use Rattle.handler_names.specs.Told.{HandlersTold, SaysHandlers}
use Rattle.handler_names.proofs.LayerLemmas.{told_by_rows}
use Rattle.change_targets.specs.declared.walking.UnitTargets.{UnitTargets}
use Rattle.change_targets.specs.Told.{TargetsTold}
use Rattle.target_tables.specs.declared.firsts.GivenValue.{GivenValue}
use Rattle.target_tables.specs.Names.{name_in}
use Rattle.target_tables.specs.Firsts.{Firsts, none_given, firsts_added, first_at}
use Rattle.target_tables.specs.Seen.{target_by, targets_from, HasRow, SaysObject, SaysObjects, SaysTargets}
use Rattle.target_tables.proofs.TargetLemmas.{target_there}
use Rattle.target_tables.proofs.OwnerLemmas.{objects_said}
use Rattle.target_tables.proofs.ToldLemmas.{all_told}
use Rattle.value_purposes.specs.Bare.{TellsPaths}
use Rattle.program_meanings.specs.declared.made.ProgramMeanings.{ProgramMeanings}
use Rattle.program_meanings.specs.Made.{each_from, objects_named, handlers_in, handlers_of, targets_in, targets_by, targets_with, targets_shown, targets_of, AreMeanings}
use Rattle.program_meanings.proofs.EachLemmas.{made_there}

-- ---- the ids of a document

ids_at : (us : List UnitNames) (n : ℕ) (sources : List DocumentTable) (ids : List UnitIds) → AllIds us n sources ids → (d : ℕ) (x : DocumentTable) → slice_get sources d ≡ Some x
    → (y : UnitIds) × (slice_get ids d ≡ Some y) × IdsOf us (n + d) x (Some y)
ids_at us n [] ids a d x e = none_some x e
ids_at us n (s ∷ sources) [] a d x e = absurd a
ids_at us n (s ∷ sources) (y ∷ ids) a zero x e =
    (y, refl, subst (λ k. IdsOf us k x (Some y)) (let i : n ≡ n + 0 = omega arith in i) (subst (λ z. IdsOf us n z (Some y)) (ap (λ v. unwrap_or v x) e) a.0))
ids_at us n (s ∷ sources) (y ∷ ids) a (suc d) x e =
    let z = ids_at us (suc n) sources ids a.1 d x e in (z.0, z.1, subst (λ k. IdsOf us k x (Some z.0)) (let i : suc n + d ≡ n + suc d = omega arith in i) z.2)

-- ---- a file that is no document

no_rows_there : {X : Type 0} (ws : List OwnedMember) → ws ≡ [] → (k : ℕ) (w : OwnedMember) → slice_get ws k ≡ Some w → X
no_rows_there ws e k w i = none_some w (sym (ap (λ rs. slice_get rs k) e) ∙ i)

nothing_said : (p : Program) (us : List UnitNames) (d : ℕ) (own : UnitIds) (rows : List UnitRow) (objects : List ObjectRow) → OfNothing (unit_at p d) objects rows
    → SaysObjects p (roots_of p) us own (owners_of rows objects) d
nothing_said p us d own rows objects w = record {
  covers = subst (λ (os : List WrittenObject). length os ≤ length (owners_of rows objects)) (sym w.none) (least (length (owners_of rows objects)));
  each = λ o h. no_rows_there (unit_at p d).rows w.no_members h.0 h.1 h.2;
}
  where
    least : (n : ℕ) → 0 ≤ n
    least n = omega arith

nothing_stands : (node : ℕ) → part_at [] node ≡ mark
nothing_stands node = cond-false (ltb node 0) (item_at [] node) mark (le-ltb node 0 (least node))
  where
    least : (n : ℕ) → 0 ≤ n
    least n = omega arith

no_tree : (us : List UnitNames) (own : UnitIds) (owners : List (Option ℕ)) (d o : ℕ) (x : Option GivenValue) → Path (Option ℕ) None (target_by us own owners d [] o x)
no_tree us own owners d o None = refl
no_tree us own owners d o (Some x) = sym (ap (λ i. seen_by us own owners d o (name_in i)) (nothing_stands x.node))

-- what is made of each object's first value, by what the file is
made_so : (us : List UnitNames) (ids : List UnitIds) (d : ℕ) (x : DocumentTable) (own : UnitIds) (c : Content) → slice_get ids d ≡ Some own → (o : ℕ)
    → unwrap_or (slice_get (targets_shown us ids d x c) o) None ≡
    target_by us own (owners_of x.rows.items x.objects.items) d (tree_in c) o (first_at (firsts_added [] x.rows.items (map none_given (owners_of x.rows.items x.objects.items))) o)
made_so us ids d x own (content.Document t) e o =
    ap (λ y. unwrap_or (slice_get (targets_with us d x y t) o) None) e ∙
    target_there us own (owners_of x.rows.items x.objects.items) d t (firsts_added [] x.rows.items (map none_given (owners_of x.rows.items x.objects.items))) o
made_so us ids d x own content.Missing e o = no_tree us own (owners_of x.rows.items x.objects.items) d o (first_at (firsts_added [] x.rows.items (map none_given (owners_of x.rows.items x.objects.items))) o)
made_so us ids d x own content.TooLarge e o = no_tree us own (owners_of x.rows.items x.objects.items) d o (first_at (firsts_added [] x.rows.items (map none_given (owners_of x.rows.items x.objects.items))) o)
made_so us ids d x own (content.Unread at cause) e o = no_tree us own (owners_of x.rows.items x.objects.items) d o (first_at (firsts_added [] x.rows.items (map none_given (owners_of x.rows.items x.objects.items))) o)
made_so us ids d x own (content.Script t) e o = no_tree us own (owners_of x.rows.items x.objects.items) d o (first_at (firsts_added [] x.rows.items (map none_given (owners_of x.rows.items x.objects.items))) o)

-- ---- all documents

module _ (p : Program) (tables : ProgramTables) (paths : ProgramPaths) (made : ProgramMeanings) (h : TellProgram p tables) (are : MadePaths tables.names.units.items tables.documents.items paths)
    (m : AreMeanings tables.names.units.items tables.documents.items paths.ids.items made) where
  abbrev us : List UnitNames
  us = tables.names.units.items

  abbrev xs : List DocumentTable
  xs = tables.documents.items

  abbrev ids : List UnitIds
  ids = paths.ids.items

  abbrev Told : ℕ → UnitNames → Type 0
  Told d unit = (x : DocumentTable) × (slice_get xs d ≡ Some x) × Tells p d (tree_in x.content.value) unit x.rows.items x.inside.items

  told : (d : ℕ) (unit : UnitNames) → slice_get us d ≡ Some unit → Told d unit
  told d unit e =
      let x = in_list xs d (subst (λ n. d < n) (h.stands.long ∙ sym h.long) (there_less us d unit e)) in
      let t = h.tells d x.0 x.1 in
      (x.0, x.1, subst (λ n. Tells p d (tree_in x.0.content.value) n x.0.rows.items x.0.inside.items) (ap (λ v. unwrap_or v unit) (sym t.1 ∙ e)) t.2)

  ids_told : TellsIds p (roots_of p) us ids paths.aliases.items
  ids_told = all_tell p tables paths h are

  -- ---- handlers

  handlers_said : (d : ℕ) (unit : UnitNames) → slice_get us d ≡ Some unit → SaysHandlers p made.handlers.items d unit
  handlers_said d unit e =
      let s = told d unit e in
      let y = made_there (handlers_of us) handlers_in xs made.handlers.items d s.0 m.handlers s.1 in
      record {
        says = s.2.unit;
        own = y.0;
        kept = y.1;
        made =
            y.2 ∙ ap (λ x. handlers_added [] s.0.rows.items (map no_handlers (objects_named x))) e ∙
            ap (λ rs. handlers_added [] rs (map no_handlers unit.objects.items)) (sym s.2.made);
      }

  -- ---- targets

  range : (d : ℕ) (unit : UnitNames) → slice_get us d ≡ Some unit → (k : ℕ) (w : OwnedMember) → slice_get (unit_at p d).rows k ≡ Some w → w.object < length (unit_at p d).objects
  range d unit e k w i = rows_below p d (told d unit e).2.unit.members k w i

  objects_by : (d : ℕ) (unit : UnitNames) (e : slice_get us d ≡ Some unit) (x : DocumentTable) (g : slice_get xs d ≡ Some x) (t : Tells p d (tree_in x.content.value) unit x.rows.items x.inside.items)
      (own : UnitIds) → slice_get ids d ≡ Some own → AreIds us d x.rows.items x.objects.items (Some own)
      → IsWritten (unit_at p d) (tree_in x.content.value) x.objects.items x.rows.items → SaysObjects p (roots_of p) us own (owners_of x.rows.items x.objects.items) d
  objects_by d unit e x g t own kept made_ids (inr w) = nothing_said p us d own x.rows.items x.objects.items w
  objects_by d unit e x g t own kept made_ids (inl w) =
      let says : RowsSay p d t.unit.tree [] x.rows.items (unit_at p d).rows = subst (λ rs. RowsSay p d t.unit.tree [] rs (unit_at p d).rows) t.made t.unit.says in
      let long : length x.objects.items ≡ length unit.objects.items = h.objects d x unit g e in
      objects_said p us ids d own t.unit.tree x.rows.items x.objects.items w.file (is_document (document w.are.imports w.are.root)) w.same says
      (objects_say p us d w.file (tree_in x.content.value) x.objects.items x.rows.items w.are w.same w.read
      (λ o l. object_there us d o unit e (subst (λ n. o < n) long l))
      (λ k r i. row_there p d us t.unit.tree [] x.rows.items (unit_at p d).rows says (rows_there p d us (tree_in x.content.value) unit x.rows.items x.inside.items e t) k r i))
      (range d unit e) ids_told.told_ids kept (all_roots p tables paths d own h are kept) made_ids

  targets_said : (d : ℕ) (unit : UnitNames) → slice_get us d ≡ Some unit → SaysTargets p (roots_of p) us made.targets.items d unit
  targets_said d unit e =
      let s = told d unit e in
      let x = s.0 in
      let y = made_there (targets_of us ids) targets_in xs made.targets.items d x m.targets s.1 in
      let z = ids_at us 0 xs ids are.ids d x s.1 in
      let owners : List (Option ℕ) = owners_of x.rows.items x.objects.items in
      record {
        says = s.2.unit;
        ids = z.0;
        owners = owners;
        objects =
            objects_by d unit e x s.1 s.2 z.0 z.1 (subst (λ k. AreIds us k x.rows.items x.objects.items (Some z.0)) (let i : 0 + d ≡ d = omega arith in i) z.2) (h.written d x s.1);
        own = y.0;
        kept = y.1;
        made = λ o.
            ap (λ ts. unwrap_or (slice_get ts o) None) y.2 ∙ made_so us ids d x z.0 x.content.value z.1 o ∙
            ap (λ t. target_by us z.0 owners d t o (first_at (firsts_added [] x.rows.items (map none_given owners)) o)) (sym s.2.tree) ∙
            ap (λ rs. target_by us z.0 owners d s.2.unit.tree o (first_at (firsts_added [] rs (map none_given owners)) o)) (sym s.2.made);
      }

  pub tells : TellsPaths p (roots_of p) us made.handlers.items paths.ends.items made.targets.items
  tells = record {
    ids = ids;
    aliases = paths.aliases.items;
    tells = ids_told;
    knows = are.paths.known;
    handlers = told_by_rows p us made.handlers.items handlers_said;
    targets = all_told p (roots_of p) us made.targets.items h.stands targets_said;
  }
