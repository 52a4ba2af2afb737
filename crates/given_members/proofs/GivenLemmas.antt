-- What the rows of a document are given for is what its members are given for in the program.
use Rattle.std.proofs.Common.{◌≡◌, ◌∙◌, ap, sym, refl, subst, ℕ, zero, suc, ◌+◌, arith, Bool, true, false, List, [], ◌∷◌, ◌++◌, length, map, Option, Some, None, is_some}
use Rattle.std.specs.Prelude.{◌||◌, slice_get}
use Rattle.std.specs.Option.{option_map, option_and_then, unwrap_or}
use Rattle.std.proofs.lemmas.Bool.{false≢true}
use Rattle.std.proofs.lemmas.List.{map-append}
use Rattle.qml_syntax.specs.Tree.{Units}
use Rattle.qml_syntax.specs.Nodes.{Table}
use Rattle.qml_syntax.specs.declared.contextual.Adjective.{Adjective}
use Rattle.qml_syntax.specs.declared.contextual.Adjective.TheVariants as adjective
use Rattle.qml_types.specs.declared.members.DefaultMember.TheVariants as member
use Rattle.program_names.specs.Written.{WrittenMember, OwnedMember}
use Rattle.program_names.specs.Loaded.{Program, Unit as AUnit, unit_at, no_unit}
use Rattle.program_names.specs.Layers.{DefaultProperty, no_default, to_property, default_of}
use Rattle.program_names.specs.Components.{Roots}
use Rattle.program_names.specs.ComponentRoots.{roots_of, meaning_given}
use Rattle.program_names.specs.PathMeanings.{here, PathMeaning as AMeaning, a_property_of, an_object_of, a_handler, children_of, no_meaning, without_target, meaning_of_path}
use Rattle.load_faults.specs.Faults.{Purpose, for_role, as_attached, for_target, by_path, purpose_of}
use Rattle.document_rows.specs.WholePaths.{path_at}
use Rattle.document_members.specs.declared.member.Member.{Member}
use Rattle.document_members.specs.declared.member.Member.TheVariants as m
use Rattle.document_members.specs.Members.{written_in, added_by}
use Rattle.program_tables.specs.declared.building.UnitRow.{UnitRow}
use Rattle.program_tables.specs.declared.names.DefaultPlace.{DefaultPlace}
use Rattle.program_tables.specs.declared.names.DefaultPlace.TheVariants as place
use Rattle.program_tables.specs.declared.names.UnitNames.{UnitNames}
use Rattle.program_tables.specs.Building.{is_group, is_inside, is_default}
use Rattle.program_tables.specs.Defaults.{default_at}
use Rattle.program_tables.specs.RowsSay.{SaysRow, RowsSay}
use Rattle.program_tables.specs.Stands.{is_there, member_at, default_in as default_by, default_meant}
use Rattle.program_tables.proofs.GroupLemmas.{is_filled, inside_alike, filled_by}
use Rattle.program_tables.proofs.DefaultLemmas.{or_no_default, default_as_meant}
use Rattle.component_roots.specs.Deciding.{name_of_place}
use Rattle.path_ends.specs.declared.aliases.UnitEnds.{UnitEnds}
use Rattle.document_tables.specs.declared.program.DocumentTable.{DocumentTable}
use Rattle.document_tables.specs.declared.program.ProgramTables.{ProgramTables}
use Rattle.document_tables.specs.Groups.{insides}
use Rattle.document_tables.specs.Tables.{Tells, TellProgram, tree_in}
use Rattle.document_tables.proofs.ThereLemmas.{AllThere, rows_there}
use Rattle.program_paths.specs.declared.paths.ProgramPaths.{ProgramPaths}
use Rattle.program_paths.specs.Paths.{ArePaths}
use Rattle.handler_names.specs.declared.declared.UnitHandlers.{UnitHandlers}
use Rattle.change_targets.specs.declared.walking.UnitTargets.{UnitTargets}
use Rattle.path_meanings.specs.Bare.{bare}
use Rattle.value_purposes.specs.Given.{meant_at, given_at}
use Rattle.value_purposes.specs.Purposes.{purpose_at}
use Rattle.value_purposes.specs.Bare.{bare_purpose, TellsPaths}
use Rattle.value_purposes.proofs.PurposeLemmas.{meant_alike, given_as_meant, purpose_as_meant}
use Rattle.program_meanings.specs.declared.made.ProgramMeanings.{ProgramMeanings}
use Rattle.program_meanings.specs.Made.{AreMeanings}
use Rattle.program_meanings.proofs.TellLemmas.{tells}
use Rattle.property_faults.specs.declared.given.GivenFor.{GivenFor}
use Rattle.property_faults.specs.declared.given.GivenFor.TheVariants as g
use Rattle.property_faults.specs.Given.{for_meaning as meaning_for, for_purpose as purpose_for, for_child as child_for, given_for, AllGiven}
use Rattle.given_members.specs.Children.{for_meaning, name_if, default_named, default_of_row, default_in, for_name, for_default, for_built_in, for_place, for_child}
use Rattle.given_members.specs.Rows.{for_purpose, for_child_in, for_member, for_rows}

-- ---- without ways

meanings_alike : (s : AMeaning) → for_meaning (bare s) ≡ meaning_for s
meanings_alike (a_property_of w place k a own) = refl
meanings_alike (an_object_of s) = refl
meanings_alike (a_handler names) = refl
meanings_alike (children_of w) = refl
meanings_alike no_meaning = refl
meanings_alike without_target = refl

purposes_alike : (s : Purpose) → for_purpose (bare_purpose s) ≡ purpose_for s
purposes_alike for_role = refl
purposes_alike as_attached = refl
purposes_alike for_target = refl
purposes_alike (by_path s) = meanings_alike s

-- ---- declared default properties

abbrev as_property : Option Units → Option DefaultProperty
as_property x = option_map to_property x

member_default : (t : Table) (before : List Units) (first : ℕ) (x : Member) → as_property (default_named (is_filled before) x) ≡ default_by (Some (written_in t before first x))
member_default t [] first (m.Property q a k n at v) = by_adjective a
  where
    by_adjective : (a : Adjective) → as_property (name_if (is_default a) n) ≡ default_by (Some (written_in t [] first (m.Property q a k n at v)))
    by_adjective adjective.Default = refl
    by_adjective _ = refl
member_default t [] first (m.Alias q true n at target) = refl
member_default t [] first (m.Alias q false n at target) = refl
member_default t [] first (m.Id w n at) = refl
member_default t [] first (m.Signal q n at parameters) = refl
member_default t [] first (m.Method q f n at) = refl
member_default t [] first (m.Given path v) = refl
member_default t [] first (m.Group path) = refl
member_default t [] first (m.Child c) = refl
member_default t (b ∷ bs) first (m.Property q a k n at v) = refl
member_default t (b ∷ bs) first (m.Alias q e n at target) = refl
member_default t (b ∷ bs) first (m.Id w n at) = refl
member_default t (b ∷ bs) first (m.Signal q n at parameters) = refl
member_default t (b ∷ bs) first (m.Method q f n at) = refl
member_default t (b ∷ bs) first (m.Given path v) = refl
member_default t (b ∷ bs) first (m.Group path) = refl
member_default t (b ∷ bs) first (m.Child c) = refl

abbrev member_of : OwnedMember → WrittenMember
member_of w = w.member

row_default : (p : Program) (u : ℕ) (t : Table) (grouping : List Bool) (paths : List (List Units)) (rows : List UnitRow) (ws : List OwnedMember) → RowsSay p u t paths rows ws → grouping ≡ map is_filled paths → (k : ℕ)
    → as_property (default_of_row (insides grouping rows) k (slice_get rows k)) ≡ default_by (option_map member_of (slice_get ws k))
row_default p u t grouping paths [] [] s e k = refl
row_default p u t grouping paths [] (w ∷ ws) s e k = absurd s
row_default p u t grouping paths (r ∷ rows) [] s e k = absurd s
row_default p u t grouping paths (r ∷ rows) (w ∷ ws) s e zero =
    ap (λ b. as_property (default_named b r.member)) (ap (λ g. is_inside g r.row.group) e ∙ inside_alike paths r.row.group) ∙
    member_default t (path_at paths r.row.group) r.row.first r.member ∙ ap (λ x. default_by (Some x)) s.0.member
row_default p u t grouping paths (r ∷ rows) (w ∷ ws) s e (suc k) =
    let before = path_at paths r.row.group in
    let inside : is_inside grouping r.row.group ≡ is_filled before = ap (λ g. is_inside g r.row.group) e ∙ inside_alike paths r.row.group in
    row_default p u t (grouping ++ (is_inside grouping r.row.group || is_group r.member) ∷ []) (paths ++ (before ++ added_by r.member) ∷ []) rows ws s.1
    (ap (λ g. g ++ (is_inside grouping r.row.group || is_group r.member) ∷ []) e ∙
    ap (λ b. map is_filled paths ++ b ∷ []) (ap (λ b. b || is_group r.member) inside ∙ sym (filled_by before r.member)) ∙
    sym (map-append is_filled paths ((before ++ added_by r.member) ∷ []))) k

none_in_both : {X Y : Type 0} (xs : List X) (ys : List Y) (d : ℕ) → length xs ≡ length ys → slice_get xs d ≡ None → Path (Option Y) (slice_get ys d) None
none_in_both [] [] d e h = refl
none_in_both [] (y ∷ ys) d e h = absurd (omega arith)
none_in_both (x ∷ xs) [] d e h = absurd (omega arith)
none_in_both (x ∷ xs) (y ∷ ys) zero e h = absurd (false≢true (sym (ap is_some h)))
none_in_both (x ∷ xs) (y ∷ ys) (suc d) e h = let l : length xs ≡ length ys = omega arith in none_in_both xs ys d l h

default_said : (p : Program) (tables : ProgramTables) → TellProgram p tables → (u k : ℕ) → as_property (default_in tables.documents.items u k) ≡ default_by (member_at p u k)
default_said p tables h u k = by_document (slice_get tables.documents.items u) refl
  where
    by_document : (y : Option DocumentTable) → slice_get tables.documents.items u ≡ y
        → as_property (option_and_then (λ (x : DocumentTable). default_of_row x.inside.items k (slice_get x.rows.items k)) y) ≡ default_by (member_at p u k)
    by_document None e =
        sym (ap (λ (o : Option AUnit). default_by (option_map member_of (slice_get (unwrap_or o no_unit).rows k))) (none_in_both tables.documents.items p u h.long e))
    by_document (Some x) e =
        let t = (h.tells u x e).2 in
        ap (λ b. as_property (default_of_row b k (slice_get x.rows.items k))) t.groups ∙
        row_default p u t.unit.tree [] [] x.rows.items (unit_at p u).rows (subst (λ rs. RowsSay p u t.unit.tree [] rs (unit_at p u).rows) t.made t.unit.says) refl k

-- ---- members

module _ (p : Program) (roots : Roots) (tables : ProgramTables) (hs : List UnitHandlers) (known : List UnitEnds) (ts : List UnitTargets) (h : TellProgram p tables)
    (t : TellsPaths p roots tables.names.units.items hs known ts) where
  abbrev us : List UnitNames
  us = tables.names.units.items

  abbrev docs : List DocumentTable
  docs = tables.documents.items

  name_said : (d o : ℕ) (name : Units) → is_there us d o ≡ true → for_name us hs known d o name ≡ meaning_for (meaning_of_path p roots (here d o) (name ∷ []))
  name_said d o name l =
      ap for_meaning (meant_alike p roots us hs known ts t (here d o) [] name [] l) ∙ meanings_alike (meaning_of_path p roots (here d o) (name ∷ []))

  declared_said : (d o : ℕ) → is_there us d o ≡ true → (x : Option Units) (y : Option DefaultProperty) → as_property x ≡ y → for_default us hs known d o x ≡ child_for p roots d o (unwrap_or y no_default)
  declared_said d o l None y e = ap (λ z. child_for p roots d o (unwrap_or z no_default)) e
  declared_said d o l (Some name) y e = name_said d o name l ∙ ap (λ z. child_for p roots d o (unwrap_or z no_default)) e

  place_said : (d o : ℕ) → is_there us d o ≡ true → (y : Option DefaultPlace) → for_place us hs known docs d o y ≡ child_for p roots d o (or_no_default (option_map (default_meant p) y))
  place_said d o l None = refl
  place_said d o l (Some (place.Declared u row)) = declared_said d o l (default_in docs u row) (default_by (member_at p u row)) (default_said p tables h u row)
  place_said d o l (Some (place.BuiltIn k (member.Property n))) = name_said d o (name_of_place k n) l
  place_said d o l (Some (place.BuiltIn k member.Children)) = refl
  place_said d o l (Some (place.BuiltIn k member.Held)) = refl
  place_said d o l (Some (place.BuiltIn k member.Rows)) = refl

  child_said : (d o : ℕ) → is_there us d o ≡ true → for_child us hs known docs d o ≡ child_for p roots d o (default_of p d o)
  child_said d o l = place_said d o l (default_at (length us + 1) us d o) ∙ ap (child_for p roots d o) (default_as_meant p us t.tells.stands d o l)

  member_said : (d o : ℕ) → is_there us d o ≡ true → (tree : Table) (before : List Units) (first : ℕ) (x : Member)
      → for_member us hs known ts docs d o before x ≡ given_for p roots d o (written_in tree before first x)
  member_said d o l tree before first (m.Given path v) =
      ap for_purpose (purpose_as_meant p roots us hs known ts t d o l before path.first path.rest.items) ∙ purposes_alike (purpose_of p roots d o (before ++ path.first ∷ path.rest.items))
  member_said d o l tree before first (m.Group path) =
      ap for_meaning (given_as_meant p roots us hs known ts t d o l before path.first path.rest.items) ∙ meanings_alike (meaning_given p roots d o (before ++ path.first ∷ path.rest.items))
  member_said d o l tree [] first (m.Child c) = child_said d o l
  member_said d o l tree (b ∷ bs) first (m.Child c) = refl
  member_said d o l tree [] first (m.Id w n at) = refl
  member_said d o l tree [] first (m.Property q a k n at v) = refl
  member_said d o l tree [] first (m.Alias q e n at target) = refl
  member_said d o l tree [] first (m.Signal q n at parameters) = refl
  member_said d o l tree [] first (m.Method q f n at) = refl
  member_said d o l tree (b ∷ bs) first (m.Id w n at) = refl
  member_said d o l tree (b ∷ bs) first (m.Property q a k n at v) = refl
  member_said d o l tree (b ∷ bs) first (m.Alias q e n at target) = refl
  member_said d o l tree (b ∷ bs) first (m.Signal q n at parameters) = refl
  member_said d o l tree (b ∷ bs) first (m.Method q f n at) = refl

  rows_given : (d : ℕ) (tree : Table) (paths : List (List Units)) (rows : List UnitRow) (ws : List OwnedMember) → RowsSay p d tree paths rows ws → AllThere us d ws
      → AllGiven p roots d (for_rows us hs known ts docs d paths rows) ws
  rows_given d tree paths [] [] s a = tt
  rows_given d tree paths [] (w ∷ ws) s a = absurd s
  rows_given d tree paths (r ∷ rows) [] s a = absurd s
  rows_given d tree paths (r ∷ rows) (w ∷ ws) s a =
      let before = path_at paths r.row.group in (
        ap (λ o. for_member us hs known ts docs d o before r.member) s.0.object ∙
            member_said d w.object a.0 tree before r.row.first r.member ∙ ap (given_for p roots d w.object) s.0.member,
        rows_given d tree (paths ++ (before ++ added_by r.member) ∷ []) rows ws s.1 a.1,
      )

pub given_told : (p : Program) (tables : ProgramTables) (paths : ProgramPaths) (made : ProgramMeanings) (d : ℕ) (x y : DocumentTable) (given : List GivenFor) → TellProgram p tables
    → ArePaths tables.names.units.items tables.documents.items (Some paths) → AreMeanings tables.names.units.items tables.documents.items paths.ids.items made
    → slice_get tables.documents.items d ≡ Some x → Some y ≡ slice_get tables.documents.items d
    → given ≡ for_rows tables.names.units.items made.handlers.items paths.ends.items made.targets.items tables.documents.items d [] y.rows.items
    → AllGiven p (roots_of p) d given (unit_at p d).rows
given_told p tables paths made d x y given h are m e f g =
    let u = h.tells d y (sym f) in
    let t = u.2 in
    subst (λ gs. AllGiven p (roots_of p) d gs (unit_at p d).rows) (sym g)
    (rows_given p (roots_of p) tables made.handlers.items paths.ends.items made.targets.items h (tells p tables paths made h are m) d t.unit.tree [] y.rows.items (unit_at p d).rows
    (subst (λ rs. RowsSay p d t.unit.tree [] rs (unit_at p d).rows) t.made t.unit.says)
    (rows_there p d tables.names.units.items (tree_in y.content.value) u.0 y.rows.items y.inside.items u.1 t))

pub no_table : {X : Type 0} (tables : ProgramTables) (d : ℕ) (x : DocumentTable) → slice_get tables.documents.items d ≡ Some x → Path (Option DocumentTable) None (slice_get tables.documents.items d) → X
no_table tables d x e f = absurd (false≢true (ap is_some (f ∙ e)))
