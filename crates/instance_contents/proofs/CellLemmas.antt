-- The cells of planned objects.
use Rattle.std.proofs.Common.{◌≡◌, ◌∙◌, ap, sym, refl, ℕ, suc, ◌+◌, Bool, true, false, cond, ◌&&◌, List, [], ◌∷◌, ◌++◌, map, drop, length, codes, append_assoc, length-append, add-one, Option, Some, None, arith}
use Rattle.std.specs.Str.{bytes_eq}
use Rattle.std.specs.List.{slice_get}
use Rattle.std.specs.Option.{option_map, unwrap_or}
use Rattle.std.proofs.lemmas.Bool.{false≢true}
use Rattle.qml_value.specs.declared.value.Value.{Value, List as smart_list}
use Rattle.js_meaning.specs.Rows.{list_value}
use Rattle.js_meaning.proofs.SameLemmas.{list_is}
use Rattle.qml_types.specs.Conversion.{default_of}
use Rattle.qml_types.specs.First.{first_value}
use Rattle.qml_types.specs.Table.{TypeCell, cells_of}
use Rattle.qml_types.specs.declared.kind.TypeNo.{TypeNo}
use Rattle.qml_types.specs.declared.kind.TypeNo.TheVariants as no
use Rattle.qml_types.specs.declared.kind.PropKind.{PropKind}
use Rattle.qml_types.specs.declared.kind.PropKind.TheVariants as kind
use Rattle.tree_model.specs.declared.cells.NewCell.{NewCell}
use Rattle.tree_model.specs.declared.cells.Content.{Content as TreeContent}
use Rattle.tree_model.specs.declared.cells.Content.TheVariants.{Plain}
use Rattle.unit_rows.specs.declared.names.CellRow.{CellRow}
use Rattle.instance_plans.specs.declared.planned.Planned.{Planned}
use Rattle.instance_plans.specs.Numbers.{row_at, documents_of, builtin_planned, stands_on, object_no}
use Rattle.instance_plans.specs.Contents.{Content, bound, by_count, by_visible, by_enabled}
use Rattle.instance_plans.specs.Cells as made
use Rattle.instance_plans.specs.Treed.{content_made, value_made, cell_made}
use Rattle.instance_contents.specs.declared.tables.Tables.{Tables}
use Rattle.instance_contents.specs.Tables.{rows_in, live_in, plan_in}
use Rattle.instance_contents.specs.Sources.{given_all, content_in}
use Rattle.instance_contents.specs.Making.{owner_value, held_at_first, content_otherwise, cell_of_type, typed_if, own_rule, is_list_kind, empty_value, declared_cell_of, declared_from, rows_of_documents, delegate_cell, cells_of_list, cells_of_object}
use Rattle.instance_contents.proofs.LookLemmas.{parted_here}

pub no_list : smart_list [] ≡ list_value []
no_list = list_is []

-- ---- what a cell holds at first

pub empty_is : (k : PropKind) → default_of k ≡ empty_value k
empty_is (kind.List t) = list_is []
empty_is kind.Int = refl
empty_is kind.Real = refl
empty_is kind.Double = refl
empty_is kind.String = refl
empty_is kind.Url = refl
empty_is kind.Color = refl
empty_is kind.Bool = refl
empty_is kind.Var = refl
empty_is kind.Variant = refl
empty_is (kind.Object t) = refl
empty_is kind.Component = refl

module _ (t : Tables) where
  abbrev or_list : PropKind → Value → Content
  or_list k v = made.list_or (rows_in t) (live_in t) (plan_in t) (given_all t) k v

  list_is_empty : (k : PropKind) (v : Value) → is_list_kind k ≡ true → value_made (or_list k v) ≡ list_value []
  list_is_empty (kind.List u) v e = refl
  list_is_empty kind.Int v e = absurd (false≢true e)
  list_is_empty kind.Real v e = absurd (false≢true e)
  list_is_empty kind.Double v e = absurd (false≢true e)
  list_is_empty kind.String v e = absurd (false≢true e)
  list_is_empty kind.Url v e = absurd (false≢true e)
  list_is_empty kind.Color v e = absurd (false≢true e)
  list_is_empty kind.Bool v e = absurd (false≢true e)
  list_is_empty kind.Var v e = absurd (false≢true e)
  list_is_empty kind.Variant v e = absurd (false≢true e)
  list_is_empty (kind.Object u) v e = absurd (false≢true e)
  list_is_empty kind.Component v e = absurd (false≢true e)

  others_are : (k : PropKind) (v : Value) → is_list_kind k ≡ false → value_made (or_list k v) ≡ v
  others_are (kind.List u) v e = absurd (false≢true (sym e))
  others_are kind.Int v e = refl
  others_are kind.Real v e = refl
  others_are kind.Double v e = refl
  others_are kind.String v e = refl
  others_are kind.Url v e = refl
  others_are kind.Color v e = refl
  others_are kind.Bool v e = refl
  others_are kind.Var v e = refl
  others_are kind.Variant v e = refl
  others_are (kind.Object u) v e = refl
  others_are kind.Component v e = refl

  -- what a cell holds at first is never bound
  held_plain : (k : PropKind) (v : Value) → content_made (or_list k v) ≡ Plain (value_made (or_list k v))
  held_plain (kind.List u) v = refl
  held_plain kind.Int v = refl
  held_plain kind.Real v = refl
  held_plain kind.Double v = refl
  held_plain kind.String v = refl
  held_plain kind.Url v = refl
  held_plain kind.Color v = refl
  held_plain kind.Bool v = refl
  held_plain kind.Var v = refl
  held_plain kind.Variant v = refl
  held_plain (kind.Object u) v = refl
  held_plain kind.Component v = refl

  kind_plain : (k : PropKind) → content_made (made.of_kind (rows_in t) (live_in t) (plan_in t) (given_all t) k) ≡ Plain (empty_value k)
  kind_plain (kind.List u) = refl
  kind_plain kind.Int = refl
  kind_plain kind.Real = refl
  kind_plain kind.Double = refl
  kind_plain kind.String = refl
  kind_plain kind.Url = refl
  kind_plain kind.Color = refl
  kind_plain kind.Bool = refl
  kind_plain kind.Var = refl
  kind_plain kind.Variant = refl
  kind_plain (kind.Object u) = refl
  kind_plain kind.Component = refl

  kind_value : (k : PropKind) → value_made (made.of_kind (rows_in t) (live_in t) (plan_in t) (given_all t) k) ≡ empty_value k
  kind_value (kind.List u) = refl
  kind_value kind.Int = refl
  kind_value kind.Real = refl
  kind_value kind.Double = refl
  kind_value kind.String = refl
  kind_value kind.Url = refl
  kind_value kind.Color = refl
  kind_value kind.Bool = refl
  kind_value kind.Var = refl
  kind_value kind.Variant = refl
  kind_value (kind.Object u) = refl
  kind_value kind.Component = refl

  pub first_of_list : (owner : Option ℕ) (cell : TypeCell) → is_list_kind cell.kind ≡ true → smart_list [] ≡ held_at_first t owner cell
  first_of_list owner cell e = list_is [] ∙ sym (list_is_empty cell.kind (first_value cell (owner_value t owner)) e)

  pub first_of_others : (owner : Option ℕ) (cell : TypeCell) (v o : Value) → is_list_kind cell.kind ≡ false → o ≡ owner_value t owner → v ≡ first_value cell o → v ≡ held_at_first t owner cell
  first_of_others owner cell v o e same is = is ∙ ap (λ z. first_value cell z) same ∙ sym (others_are cell.kind (first_value cell (owner_value t owner)) e)

  -- ---- what a cell contains where nothing is given

  chosen : (count item visible enabled parent : Bool) (a b d p h : Content)
      → content_made (cond count a (cond (item && visible) b (cond (item && enabled) d (cond (item && parent) p h))))
      ≡ unwrap_or (cond count (Some (content_made a)) (cond item (cond visible (Some (content_made b)) (cond enabled (Some (content_made d)) (cond parent (Some (content_made p)) None))) None)) (content_made h)
  chosen true item visible enabled parent a b d p h = refl
  chosen false true true enabled parent a b d p h = refl
  chosen false true false true parent a b d p h = refl
  chosen false true false false true a b d p h = refl
  chosen false true false false false a b d p h = refl
  chosen false false visible enabled parent a b d p h = refl

  pub otherwise_is : (b : TypeNo) (x : Planned) (cell : TypeCell) → content_otherwise t b x cell ≡ unwrap_or (own_rule t b x cell.name) (Plain (held_at_first t x.owner cell))
  otherwise_is b x cell =
      chosen (bytes_eq cell.name (codes "count")) (stands_on b no.Item) (bytes_eq cell.name (codes "visible")) (bytes_eq cell.name (codes "enabled")) (bytes_eq cell.name (codes "parent"))
      (bound by_count (object_no x.number)) (bound by_visible (object_no x.number)) (bound by_enabled (object_no x.number)) (made.parent_of (rows_in t) (live_in t) (plan_in t) (given_all t) x)
      (made.held_first (rows_in t) (live_in t) (plan_in t) (given_all t) x.owner cell)
      ∙ ap (λ (z : TreeContent). unwrap_or (own_rule t b x cell.name) z) (held_plain cell.kind (first_value cell (owner_value t x.owner)))

  unwrapped : (o : Option Content) (d : Content) → content_made (unwrap_or o d) ≡ unwrap_or (option_map content_made o) (content_made d)
  unwrapped None d = refl
  unwrapped (Some c) d = refl

  pub typed_is : (b : TypeNo) (x : Planned) (cell : TypeCell) (found : Option TreeContent) (content : TreeContent) (held : Value)
      → found ≡ option_map content_made (content_in t x.number cell.place) → content ≡ unwrap_or found (content_otherwise t b x cell) → held ≡ held_at_first t x.owner cell
      → record { kind = cell.kind; content = content; held = held } ≡ cell_of_type t b x cell
  typed_is b x cell found content held e f h =
      ap (λ (c : TreeContent). record { kind = cell.kind; content = c; held = held })
      (f ∙ ap (λ (o : Option TreeContent). unwrap_or o (content_otherwise t b x cell)) e ∙ sym (unwrapped (content_in t x.number cell.place) (made.base_content (rows_in t) (live_in t) (plan_in t) (given_all t) b x cell)))
      ∙ ap (λ (v : Value). record { kind = cell.kind; content = content_made (made.content_at (rows_in t) (live_in t) (plan_in t) (given_all t) x.number cell.place (made.base_content (rows_in t) (live_in t) (plan_in t) (given_all t) b x cell)); held = v }) h

  -- ---- declared cells

  pub declared_is : (n place : ℕ) (r : CellRow) (rest : List CellRow) → declared_from t n place (r ∷ rest) ≡ declared_cell_of t n place r.kind ∷ declared_from t n (suc place) rest
  declared_is n place r rest =
      ap (λ (c : TreeContent). record { kind = r.kind; content = c; held = value_made (made.of_kind (rows_in t) (live_in t) (plan_in t) (given_all t) r.kind) } ∷ declared_from t n (suc place) rest)
      (unwrapped (content_in t n place) (made.of_kind (rows_in t) (live_in t) (plan_in t) (given_all t) r.kind) ∙ ap (λ (z : TreeContent). unwrap_or (option_map content_made (content_in t n place)) z) (kind_plain r.kind))
      ∙ ap (λ (v : Value). record { kind = r.kind; content = unwrap_or (option_map content_made (content_in t n place)) (Plain (empty_value r.kind)); held = v } ∷ declared_from t n (suc place) rest) (kind_value r.kind)

  pub declared_length : (n place : ℕ) (rows : List CellRow) → length (declared_from t n place rows) ≡ length rows
  declared_length n place [] = refl
  declared_length n place (r ∷ rest) = ap suc (declared_length n (suc place) rest)

  pub declared_append : (n place : ℕ) (xs ys : List CellRow) → declared_from t n place (xs ++ ys) ≡ declared_from t n place xs ++ declared_from t n (place + length xs) ys
  declared_append n place [] ys = ap (λ m. declared_from t n m ys) (let e : place ≡ place + 0 = omega arith in e)
  declared_append n place (x ∷ xs) ys =
      let c : NewCell = cell_made (record { kind = x.kind; content = made.content_at (rows_in t) (live_in t) (plan_in t) (given_all t) n place (made.of_kind (rows_in t) (live_in t) (plan_in t) (given_all t) x.kind); first = made.of_kind (rows_in t) (live_in t) (plan_in t) (given_all t) x.kind }) in
      ap (λ zs. c ∷ zs) (declared_append n (suc place) xs ys ∙ ap (λ m. declared_from t n (suc place) xs ++ declared_from t n m ys) (let e : suc place + length xs ≡ place + suc (length xs) = omega arith in e))

  pub declared_more : (n : ℕ) (cells after : List NewCell) (r : CellRow) (rest : List CellRow) → after ≡ cells ++ declared_cell_of t n (length cells) r.kind ∷ []
      → after ++ declared_from t n (length after) rest ≡ cells ++ declared_from t n (length cells) (r ∷ rest)
  declared_more n cells after r rest e =
      let cell = declared_cell_of t n (length cells) r.kind in
      let long : length (cells ++ cell ∷ []) ≡ suc (length cells) = length-append cells (cell ∷ []) ∙ add-one (length cells) in
      ap (λ cs. cs ++ declared_from t n (length cs) rest) e
      ∙ ap (λ m. (cells ++ cell ∷ []) ++ declared_from t n m rest) long
      ∙ append_assoc cells (cell ∷ []) (declared_from t n (suc (length cells)) rest)
      ∙ ap (λ cs. cells ++ cs) (sym (declared_is n (length cells) r rest))

  pub declared_joined : (n : ℕ) (cells after : List NewCell) (xs ys : List CellRow) → after ≡ cells ++ declared_from t n (length cells) xs
      → after ++ declared_from t n (length after) ys ≡ cells ++ declared_from t n (length cells) (xs ++ ys)
  declared_joined n cells after xs ys e =
      let front = declared_from t n (length cells) xs in
      let long : length (cells ++ front) ≡ length cells + length xs = length-append cells front ∙ ap (λ m. length cells + m) (declared_length n (length cells) xs) in
      ap (λ cs. cs ++ declared_from t n (length cs) ys) e
      ∙ ap (λ m. (cells ++ front) ++ declared_from t n m ys) long
      ∙ append_assoc cells front (declared_from t n (length cells + length xs) ys)
      ∙ ap (λ cs. cells ++ cs) (sym (declared_append n (length cells) xs ys))

  pub typed_next : (b : TypeNo) (x : Planned) (i : ℕ) (all : List TypeCell) (cells after : List NewCell) → after ≡ cells ++ typed_if t b x (slice_get all i)
      → after ++ map (cell_of_type t b x) (drop (i + 1) all) ≡ cells ++ map (cell_of_type t b x) (drop i all)
  typed_next b x i all cells after e =
      ap (λ cs. cs ++ map (cell_of_type t b x) (drop (i + 1) all)) e
      ∙ append_assoc cells (typed_if t b x (slice_get all i)) (map (cell_of_type t b x) (drop (i + 1) all))
      ∙ ap (λ cs. cells ++ cs) (sym (parted_here (map (cell_of_type t b x)) (typed_if t b x) refl (λ c cs. refl) i all))

  rows_by : (b : Bool) (documents own : List CellRow) → b ≡ false → documents ++ own ≡ cond b [] (documents ++ own)
  rows_by true documents own e = absurd (false≢true (sym e))
  rows_by false documents own e = refl

  pub rows_are : (x : Planned) (documents : List ℕ) → x.is_around ≡ false → documents ≡ documents_of (rows_in t) (row_at (rows_in t) x.unit x.object).of_type
      → rows_of_documents t documents ++ (row_at (rows_in t) x.unit x.object).cells ≡ made.rows_declared (rows_in t) (live_in t) (plan_in t) (given_all t) x
  rows_are x documents e is =
      ap (λ ds. rows_of_documents t ds ++ (row_at (rows_in t) x.unit x.object).cells) is
      ∙ rows_by x.is_around (rows_of_documents t (documents_of (rows_in t) (row_at (rows_in t) x.unit x.object).of_type)) (row_at (rows_in t) x.unit x.object).cells e

  -- ---- all cells of an object

  mapped_append : (xs ys : List made.MadeCell) → map cell_made (xs ++ ys) ≡ map cell_made xs ++ map cell_made ys
  mapped_append [] ys = refl
  mapped_append (x ∷ xs) ys = ap (λ cs. cell_made x ∷ cs) (mapped_append xs ys)

  mapped_cells : (b : TypeNo) (x : Planned) (cells : List TypeCell) → map cell_made (map (made.table_cell (rows_in t) (live_in t) (plan_in t) (given_all t) b x) cells) ≡ map (cell_of_type t b x) cells
  mapped_cells b x [] = refl
  mapped_cells b x (c ∷ cs) = ap (λ zs. cell_of_type t b x c ∷ zs) (mapped_cells b x cs)

  mapped_delegates : (vs : List Value) → map cell_made (map (made.delegate_cell (rows_in t) (live_in t) (plan_in t) (given_all t)) vs) ≡ map delegate_cell vs
  mapped_delegates [] = refl
  mapped_delegates (v ∷ vs) = ap (λ zs. delegate_cell v ∷ zs) (mapped_delegates vs)

  mapped_list : (b : TypeNo) → map cell_made (made.list_cell (rows_in t) (live_in t) (plan_in t) (given_all t) b) ≡ cells_of_list b
  mapped_list no.Repeater = refl
  mapped_list no.QtObject = refl
  mapped_list no.Component = refl
  mapped_list no.Item = refl
  mapped_list no.Timer = refl
  mapped_list no.Connections = refl
  mapped_list no.Binding = refl
  mapped_list no.State = refl
  mapped_list no.PropertyChanges = refl
  mapped_list no.ListModel = refl
  mapped_list no.ListElement = refl
  mapped_list no.Loader = refl
  mapped_list no.Host = refl

  as_long : (b : TypeNo) (x : Planned) (cells : List TypeCell) → length (map (cell_of_type t b x) cells) ≡ length cells
  as_long b x [] = refl
  as_long b x (c ∷ cs) = ap suc (as_long b x cs)

  pub all_cells : (x : Planned) (b : TypeNo) (vs : List Value) (a d e f : List NewCell)
      → b ≡ builtin_planned (rows_in t) x
      → a ≡ map (cell_of_type t b x) (cells_of b)
      → d ≡ a ++ declared_from t x.number (length a) (made.rows_declared (rows_in t) (live_in t) (plan_in t) (given_all t) x)
      → e ≡ d ++ map delegate_cell vs → f ≡ e ++ cells_of_list b → f ≡ cells_of_object t x vs
  all_cells x b vs a d e f same typed declared delegates listed =
      let base = builtin_planned (rows_in t) x in
      let rows = made.rows_declared (rows_in t) (live_in t) (plan_in t) (given_all t) x in
      let A = map (made.table_cell (rows_in t) (live_in t) (plan_in t) (given_all t) base x) (cells_of base) in
      let D = made.declared_cells (rows_in t) (live_in t) (plan_in t) (given_all t) x.number (length (cells_of base)) rows in
      let V = map (made.delegate_cell (rows_in t) (live_in t) (plan_in t) (given_all t)) vs in
      let L = made.list_cell (rows_in t) (live_in t) (plan_in t) (given_all t) base in
      let first : a ≡ map cell_made A = typed ∙ ap (λ (z : TypeNo). map (cell_of_type t z x) (cells_of z)) same ∙ sym (mapped_cells base x (cells_of base)) in
      let long : length a ≡ length (cells_of base) = ap length (typed ∙ ap (λ (z : TypeNo). map (cell_of_type t z x) (cells_of z)) same) ∙ as_long base x (cells_of base) in
      listed
      ∙ ap (λ zs. zs ++ cells_of_list b) (delegates ∙ ap (λ zs. zs ++ map delegate_cell vs) (declared ∙ ap (λ m. a ++ declared_from t x.number m rows) long ∙ ap (λ zs. zs ++ map cell_made D) first))
      ∙ ap (λ zs. zs ++ cells_of_list b) (ap (λ zs. zs ++ map delegate_cell vs) (sym (mapped_append A D)) ∙ ap (λ zs. map cell_made (A ++ D) ++ zs) (sym (mapped_delegates vs)) ∙ sym (mapped_append (A ++ D) V))
      ∙ ap (λ zs. map cell_made (A ++ D ++ V) ++ zs) (ap cells_of_list same ∙ sym (mapped_list base))
      ∙ sym (mapped_append (A ++ D ++ V) L)
