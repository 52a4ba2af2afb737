-- The names that are told of an object are those of the definition.
use Rattle.std.proofs.Common.{◌≡◌, ◌∙◌, ap, sym, refl, ℕ, Bool, true, false, not, cond, List, [], ◌∷◌, ◌++◌, map, append_assoc, Option, Some, None}
use Rattle.qml_syntax.specs.Tree.{Units}
use Rattle.qml_base.specs.declared.names.Found.TheVariants as finds
use Rattle.qml_types.specs.Table.{lineage, is_writable}
use Rattle.std.proofs.lemmas.List.{map-append}
use Rattle.std.proofs.lemmas.List.Elements.{filter-append}
use Rattle.std.specs.List.{filter, flat_map}
use Rattle.std.specs.Option.{option_map}
use Rattle.qml_base.specs.declared.names.Found.{Found}
use Rattle.qml_types.specs.declared.kind.TypeNo.{TypeNo}
use Rattle.qml_types.specs.declared.kind.TypeNo.TheVariants as no
use Rattle.program_names.specs.Layers.{names_of_type}
use Rattle.unit_rows.specs.declared.names.NameRow.{NameRow}
use Rattle.unit_rows.specs.declared.names.NameFinds.{NameFinds}
use Rattle.unit_rows.specs.declared.names.NameFinds.TheVariants.{Cell as finds_cell, Signal as finds_signal, Function as finds_function, Method as finds_method, Object as finds_object, CellOf as finds_cell_of}
use Rattle.unit_rows.specs.NamesOfObjects.{rows_of_type}
use Rattle.instance_plans.specs.declared.planned.PlannedInstance.{PlannedInstance}
use Rattle.instance_plans.specs.Numbers.{row_at, planned_instance, documents_of, builtin_of, cell_no}
use Rattle.instance_plans.specs.Contents.{has_row}
use Rattle.instance_plans.specs.NamesMade.{NameMade, made_by, builtin_names, names_of_document, aliases_last, names_seen, with_found, found_object, aliased_cell, aliased_object, list_of_option}
use Rattle.instance_names.specs.Names.{Pairs, pairs_of_type}
use Rattle.instance_names.proofs.TypeLemmas.{are_names}
use Rattle.instance_contents.specs.declared.tables.Tables.{Tables}
use Rattle.instance_contents.specs.Tables.{rows_in, live_in, plan_in, placed}
use Rattle.instance_shapes.specs.declared.told.Viewer.{Viewer}
use Rattle.instance_shapes.specs.Told.{pair_if, pairs_by, pairs_by_rows, end_in, instance_in, of_document, pairs_of_document, pairs_of_documents, pairs_of_row, pairs_written, viewer_of, cells_at, pairs_seen}

-- the names of aliases, or the others
abbrev is_of : Bool → NameMade → Bool
is_of true n = n.is_alias
is_of false n = not n.is_alias

module _ (t : Tables) where
  abbrev paired : NameMade → List ℕ × Found
  paired n = with_found (rows_in t) (live_in t) (plan_in t) n

  abbrev pairs_of : Bool → List NameMade → Pairs
  pairs_of a ns = map paired (filter (is_of a) ns)

  pairs_app : (a : Bool) (xs ys : List NameMade) → pairs_of a (xs ++ ys) ≡ pairs_of a xs ++ pairs_of a ys
  pairs_app a xs ys = ap (map paired) (filter-append (is_of a) xs ys) ∙ map-append paired (filter (is_of a) xs) (filter (is_of a) ys)

  -- ---- one row

  abbrev names_by : Option PlannedInstance → Viewer → NameRow → List NameMade
  names_by s v r = made_by (rows_in t) (live_in t) (plan_in t) s v.unit v.number v.cells r

  abbrev object_if : Bool → Option ℕ → Option Found
  object_if true n = option_map (found_object (rows_in t) (live_in t) (plan_in t)) n
  object_if false n = None

  object_row : (a : Bool) (name : Units) (n : Option ℕ) → pair_if name (object_if a n)
      ≡ pairs_of a (list_of_option (rows_in t) (live_in t) (plan_in t) (option_map (aliased_object (rows_in t) (live_in t) (plan_in t) name) n))
  object_row true name (Some m) = refl
  object_row true name None = refl
  object_row false name (Some m) = refl
  object_row false name None = refl

  abbrev cell_if : Bool → ℕ → Option ℕ → Option Found
  cell_if true place n = option_map (λ m. finds.Cell (cell_no m place)) n
  cell_if false place n = None

  cell_row : (a : Bool) (name : Units) (place : ℕ) (w : Bool) (n : Option ℕ) → pair_if name (cell_if a place n)
      ≡ pairs_of a (list_of_option (rows_in t) (live_in t) (plan_in t) (option_map (aliased_cell (rows_in t) (live_in t) (plan_in t) name place w) n))
  cell_row true name place w (Some m) = refl
  cell_row true name place w None = refl
  cell_row false name place w (Some m) = refl
  cell_row false name place w None = refl

  abbrev row : Units → NameFinds → NameRow
  row name f = record { name = name; finds = f }

  row_by : (a : Bool) (s : Option PlannedInstance) (v : Viewer) (name : Units) (f : NameFinds) → pairs_by t s v a (row name f) ≡ pairs_of a (names_by s v (row name f))
  row_by true s v name (finds_cell place x) = refl
  row_by false s v name (finds_cell place x) = refl
  row_by true s v name (finds_signal x ps) = refl
  row_by false s v name (finds_signal x ps) = refl
  row_by true s v name (finds_function b) = refl
  row_by false s v name (finds_function b) = refl
  row_by true s v name finds_method = refl
  row_by false s v name finds_method = refl
  row_by true s v name (finds_object w) = object_row true name (end_in t s w)
  row_by false s v name (finds_object w) = object_row false name (end_in t s w)
  row_by true s v name (finds_cell_of w place x) = cell_row true name place (is_writable x) (end_in t s w)
  row_by false s v name (finds_cell_of w place x) = cell_row false name place (is_writable x) (end_in t s w)

  rows_by : (a : Bool) (s : Option PlannedInstance) (v : Viewer) (rows : List NameRow) → pairs_by_rows t s v a rows ≡ pairs_of a (flat_map (names_by s v) rows)
  rows_by a s v [] = refl
  rows_by a s v (r ∷ rows) =
      ap (λ xs. xs ++ pairs_by_rows t s v a rows) (row_by a s v r.name r.finds)
      ∙ ap (λ xs. pairs_of a (names_by s v r) ++ xs) (rows_by a s v rows)
      ∙ sym (pairs_app a (names_by s v r) (flat_map (names_by s v) rows))

  -- ---- documents

  abbrev document_names : Viewer → ℕ → List NameMade
  document_names v u = names_of_document (rows_in t) (live_in t) (plan_in t) v.number v.cells u

  documents_by : (a : Bool) (v : Viewer) (us : List ℕ) → pairs_of_documents t v a us ≡ pairs_of a (flat_map (document_names v) us)
  documents_by a v [] = refl
  documents_by a v (u ∷ us) =
      ap (λ xs. xs ++ pairs_of_documents t v a us) (rows_by a (planned_instance t.instances.items u v.number) (of_document v u) (row_at (rows_in t) u 0).names)
      ∙ ap (λ xs. pairs_of a (document_names v u) ++ xs) (documents_by a v us)
      ∙ sym (pairs_app a (document_names v u) (flat_map (document_names v) us))

  -- ---- built-in types declare no aliases

  none_by : (n c : ℕ) (name : Units) (f : NameFinds) → filter (is_of true) (made_by (rows_in t) (live_in t) (plan_in t) None 0 n c (row name f)) ≡ []
  none_by n c name (finds_cell place x) = refl
  none_by n c name (finds_signal x ps) = refl
  none_by n c name (finds_function b) = refl
  none_by n c name finds_method = refl
  none_by n c name (finds_object w) = refl
  none_by n c name (finds_cell_of w place x) = refl

  all_by : (n c : ℕ) (name : Units) (f : NameFinds) → filter (is_of false) (made_by (rows_in t) (live_in t) (plan_in t) None 0 n c (row name f)) ≡ made_by (rows_in t) (live_in t) (plan_in t) None 0 n c (row name f)
  all_by n c name (finds_cell place x) = refl
  all_by n c name (finds_signal x ps) = refl
  all_by n c name (finds_function b) = refl
  all_by n c name finds_method = refl
  all_by n c name (finds_object w) = refl
  all_by n c name (finds_cell_of w place x) = refl

  none_in : (n c : ℕ) (rows : List NameRow) → filter (is_of true) (flat_map (made_by (rows_in t) (live_in t) (plan_in t) None 0 n c) rows) ≡ []
  none_in n c [] = refl
  none_in n c (r ∷ rows) =
      filter-append (is_of true) (made_by (rows_in t) (live_in t) (plan_in t) None 0 n c r) (flat_map (made_by (rows_in t) (live_in t) (plan_in t) None 0 n c) rows)
      ∙ ap (λ xs. xs ++ filter (is_of true) (flat_map (made_by (rows_in t) (live_in t) (plan_in t) None 0 n c) rows)) (none_by n c r.name r.finds)
      ∙ none_in n c rows

  all_in : (n c : ℕ) (rows : List NameRow) → filter (is_of false) (flat_map (made_by (rows_in t) (live_in t) (plan_in t) None 0 n c) rows) ≡ flat_map (made_by (rows_in t) (live_in t) (plan_in t) None 0 n c) rows
  all_in n c [] = refl
  all_in n c (r ∷ rows) =
      filter-append (is_of false) (made_by (rows_in t) (live_in t) (plan_in t) None 0 n c r) (flat_map (made_by (rows_in t) (live_in t) (plan_in t) None 0 n c) rows)
      ∙ ap (λ xs. xs ++ filter (is_of false) (flat_map (made_by (rows_in t) (live_in t) (plan_in t) None 0 n c) rows)) (all_by n c r.name r.finds)
      ∙ ap (λ xs. made_by (rows_in t) (live_in t) (plan_in t) None 0 n c r ++ xs) (all_in n c rows)

  abbrev type_rows : TypeNo → List NameRow
  type_rows b = rows_of_type (flat_map names_of_type (lineage b))

  builtin_own : (n c : ℕ) (b : TypeNo) → pairs_of_type n c b ≡ pairs_of false (builtin_names (rows_in t) (live_in t) (plan_in t) n c b)
  builtin_own n c b = are_names b (rows_in t) (live_in t) (plan_in t) n c ∙ ap (map paired) (sym (all_in n c (type_rows b)))

  builtin_none : (n c : ℕ) (b : TypeNo) → pairs_of true (builtin_names (rows_in t) (live_in t) (plan_in t) n c b) ≡ []
  builtin_none n c b = ap (map paired) (none_in n c (type_rows b))

  -- ---- an object

  three : (a : Bool) (xs ys zs : List NameMade) → pairs_of a (xs ++ ys ++ zs) ≡ pairs_of a xs ++ pairs_of a ys ++ pairs_of a zs
  three a xs ys zs = pairs_app a (xs ++ ys) zs ∙ ap (λ ps. ps ++ pairs_of a zs) (pairs_app a xs ys)

  by_parts : (b d o e u : Pairs) → b ++ (d ++ (o ++ (e ++ u))) ≡ (b ++ d ++ o) ++ (e ++ u)
  by_parts b d o e u = sym (append_assoc b d (o ++ (e ++ u))) ∙ sym (append_assoc (b ++ d) o (e ++ u))

  last_two : (ns : List NameMade) → pairs_of false ns ++ pairs_of true ns ≡ map paired (aliases_last (rows_in t) (live_in t) (plan_in t) ns)
  last_two ns = sym (map-append paired (filter (is_of false) ns) (filter (is_of true) ns))

  written_by : (n c : ℕ) (b : TypeNo) (ds os : List NameMade) →
      pairs_of_type n c b ++ (pairs_of false ds ++ (pairs_of false os ++ (pairs_of true ds ++ pairs_of true os)))
      ≡ map paired (aliases_last (rows_in t) (live_in t) (plan_in t) (builtin_names (rows_in t) (live_in t) (plan_in t) n c b ++ ds ++ os))
  written_by n c b ds os =
      let bs = builtin_names (rows_in t) (live_in t) (plan_in t) n c b in
      ap (λ ps. ps ++ (pairs_of false ds ++ (pairs_of false os ++ (pairs_of true ds ++ pairs_of true os)))) (builtin_own n c b)
      ∙ by_parts (pairs_of false bs) (pairs_of false ds) (pairs_of false os) (pairs_of true ds) (pairs_of true os)
      ∙ ap (λ ps. ps ++ (pairs_of true ds ++ pairs_of true os)) (sym (three false bs ds os))
      ∙ ap (λ ps. pairs_of false (bs ++ ds ++ os) ++ ps) (ap (λ ps. ps ++ pairs_of true ds ++ pairs_of true os) (sym (builtin_none n c b)) ∙ sym (three true bs ds os))
      ∙ last_two (bs ++ ds ++ os)

  abbrev own_names : Viewer → ℕ → List NameMade
  own_names v o = flat_map (names_by (instance_in t v) v) (row_at (rows_in t) v.unit o).names

  written_parts : (v : Viewer) (o : ℕ) → pairs_written t v o ≡ map paired (aliases_last (rows_in t) (live_in t) (plan_in t)
      (builtin_names (rows_in t) (live_in t) (plan_in t) v.number v.cells (builtin_of (rows_in t) (row_at (rows_in t) v.unit o).of_type)
      ++ flat_map (document_names v) (documents_of (rows_in t) (row_at (rows_in t) v.unit o).of_type) ++ own_names v o))
  written_parts v o =
      let r = row_at (rows_in t) v.unit o in
      let us = documents_of (rows_in t) r.of_type in
      let b = builtin_of (rows_in t) r.of_type in
      ap (λ ps. pairs_of_type v.number v.cells b ++ (ps ++ (pairs_of_row t v o false ++ (pairs_of_documents t v true us ++ pairs_of_row t v o true)))) (documents_by false v us)
      ∙ ap (λ ps. pairs_of_type v.number v.cells b ++ (pairs_of false (flat_map (document_names v) us) ++ (ps ++ (pairs_of_documents t v true us ++ pairs_of_row t v o true)))) (rows_by false (instance_in t v) v r.names)
      ∙ ap (λ ps. pairs_of_type v.number v.cells b ++ (pairs_of false (flat_map (document_names v) us) ++ (pairs_of false (own_names v o) ++ (ps ++ pairs_of_row t v o true)))) (documents_by true v us)
      ∙ ap (λ ps. pairs_of_type v.number v.cells b ++ (pairs_of false (flat_map (document_names v) us) ++ (pairs_of false (own_names v o) ++ (pairs_of true (flat_map (document_names v) us) ++ ps)))) (rows_by true (instance_in t v) v r.names)
      ∙ written_by v.number v.cells b (flat_map (document_names v) us) (own_names v o)

  by_row : (b : Bool) (seen alone : Pairs) (ns ms : List NameMade) → seen ≡ map paired ns → alone ≡ map paired ms
      → cond b seen alone ≡ map paired (elim b as (λ _. List NameMade) [ false ↦ ms | true ↦ ns ])
  by_row true seen alone ns ms e f = e
  by_row false seen alone ns ms e f = f

  pub are_seen : (k : ℕ) (at : ℕ × ℕ) (delegates : ℕ) → pairs_seen t k (placed t k) at delegates ≡ map paired (names_seen (rows_in t) (live_in t) (plan_in t) (placed t k) at delegates)
  are_seen k at delegates =
      by_row (has_row (rows_in t) (live_in t) (plan_in t) (placed t k) at.0) _ _ _ _
      (written_parts (viewer_of k (placed t k) (at.1) (cells_at t (placed t k) at delegates)) at.0)
      (are_names no.Component (rows_in t) (live_in t) (plan_in t) at.1 0)
