-- Objects that are made.
use Rattle.std.proofs.Common.{◌≡◌, ◌∙◌, ap, sym, refl, ℕ, suc, Bool, true, false, cond, ◌&&◌, ◌||◌, nat_eq, List, [], ◌∷◌, ◌++◌, map, reverse, Option, Some, None, is_some}
use Rattle.std.specs.List.{filter_map, cons_option}
use Rattle.std.specs.Option.{option_map, option_or, unwrap_or}
use Rattle.qml_base.specs.declared.numbers.CellNo.{CellNo}
use Rattle.qml_value.specs.declared.value.Value.{Value}
use Rattle.qml_types.specs.declared.kind.TypeNo.TheVariants as no
use Rattle.qml_types.specs.declared.kind.TypeRef.{TypeRef}
use Rattle.qml_types.specs.declared.kind.TypeRef.TheVariants.{Builtin}
use Rattle.qml_types.specs.Table.{lineage}
use Rattle.qml_scope.specs.Shapes.{same_cell}
use Rattle.unit_rows.specs.declared.given.GivenValue.{GivenValue}
use Rattle.unit_rows.specs.declared.given.GivenValue.TheVariants.{Literal as a_literal, Body as a_body, Object as an_object, Objects as some_objects, Id as an_id}
use Rattle.instance_plans.specs.declared.planned.Planned.{Planned}
use Rattle.instance_plans.specs.Numbers.{AllRows, row_at, number_in, value_at, documents_of, types_of, builtin_of, builtin_planned, document_ref, stands_on, cell_no}
use Rattle.instance_plans.specs.Contents.{Content, plain, list_of, bound, GivenCell, content_of, numbered_value, given_in, is_unnamed, name_cell_of, anonymous_from, values_listed, anonymous_in, anonymous}
use Rattle.instance_plans.specs.Cells as made
use Rattle.tree_model.specs.declared.cells.NewCell.{NewCell}
use Rattle.pair_table.specs.Pairs.{under}
use Rattle.instance_contents.specs.Making.{cells_of_object, object_of}
use Rattle.instance_contents.specs.declared.given.Source.{Source}
use Rattle.instance_contents.specs.declared.given.Given.{Given}
use Rattle.instance_contents.specs.declared.tables.Tables.{Tables}
use Rattle.instance_contents.specs.Tables.{rows_in, live_in, plan_in, placed}
use Rattle.instance_contents.specs.Sources.{value_given, source_content, given_all, Tells}
use Rattle.instance_contents.specs.Objects.{shown_at, types_at, documents_at, some_number, lists_some, some_listed, states_given, starts_always, starts_at}
use Rattle.instance_contents.proofs.SourceLemmas.{given_is}

-- ---- types

types_by : (units : AllRows) (t : TypeRef) (b : Bool) → reverse (map Builtin (lineage (cond b no.Component (builtin_of units t))) ++ map document_ref (cond b [] (documents_of units t)))
    ≡ cond b (Builtin no.Component ∷ Builtin no.QtObject ∷ []) (types_of units t)
types_by units t true = refl
types_by units t false = refl

-- the built-in types and behind them the documents, turned round
pub types_are : (units : AllRows) (x : Planned) → reverse (map Builtin (lineage (builtin_planned units x)) ++ map document_ref (documents_at units x)) ≡ types_at units x
types_are units x = types_by units (row_at units x.unit x.object).of_type x.is_around

-- ---- starts

module _ (t : Tables) where
  -- a State's name is no list
  named_step : (b : Bool) (n : Content) (o : Option Content) → some_listed (Some n) ≡ false → some_listed o ≡ false → some_listed (cond b (Some n) o) ≡ false
  named_step true n o e f = e
  named_step false n o e f = f

  listed_or : (o p : Option Content) → some_listed o ≡ false → some_listed p ≡ false → some_listed (option_or o p) ≡ false
  listed_or None p e f = f
  listed_or (Some c) p e f = e

  unnamed_step : (b : Bool) (o p : Option Content) → some_listed o ≡ false → some_listed p ≡ false → some_listed (elim b as (λ _. Option Content) [ true ↦ o | false ↦ p ]) ≡ false
  unnamed_step true o p e f = e
  unnamed_step false o p e f = f

  from_no_list : (n : ℕ) (vs : List Value) (c : CellNo) → some_listed (anonymous_from (rows_in t) (plan_in t) (given_all t) n vs c) ≡ false
  from_no_list n [] c = refl
  from_no_list n (v ∷ vs) c =
      unnamed_step (is_unnamed (rows_in t) (plan_in t) (given_all t) v) _ _
      (named_step (same_cell (name_cell_of (rows_in t) (plan_in t) (given_all t) v) c) _ _ refl (from_no_list (suc n) vs c)) (from_no_list n vs c)

  in_no_list : (xs : List GivenCell) (seen : List CellNo) (c : CellNo) → some_listed (anonymous_in (rows_in t) (plan_in t) (given_all t) xs seen c) ≡ false
  in_no_list [] seen c = refl
  in_no_list (x ∷ xs) seen c =
      unnamed_step _ _ _ (in_no_list xs seen c) (listed_or _ _ (from_no_list 1 (values_listed (rows_in t) (plan_in t) (given_all t) x.content) c) (in_no_list xs (x.cell ∷ seen) c))

  listed_so : (c : Content) → made.is_some_list (rows_in t) (live_in t) (plan_in t) (given_all t) c ≡ some_listed (Some c)
  listed_so (plain v) = refl
  listed_so (list_of []) = refl
  listed_so (list_of (v ∷ vs)) = refl
  listed_so (bound r o) = refl

  list_given : (o p : Option Content) → some_listed p ≡ false → made.is_some_list (rows_in t) (live_in t) (plan_in t) (given_all t) (unwrap_or (option_or o p) (list_of [])) ≡ some_listed o
  list_given None None e = refl
  list_given None (Some c) e = listed_so c ∙ e
  list_given (Some c) p e = listed_so c

  pub starts_are : (x : Planned) (delegates : List Value) → (made.made_object (rows_in t) (live_in t) (plan_in t) (given_all t) t.first delegates x).starts ≡ starts_at t x
  starts_are x delegates =
      ap (λ (b : Bool). starts_always (builtin_planned (rows_in t) x) || (stands_on (builtin_planned (rows_in t) x) no.Item && b))
      (list_given (given_in (given_all t) (cell_no x.number 11)) (anonymous (rows_in t) (plan_in t) (given_all t) (cell_no x.number 11)) (in_no_list (given_all t) [] (cell_no x.number 11)))

  -- ---- whether States are given

  listed_of : (vs : List Value) → Bool
  listed_of vs = some_listed (Some (list_of vs))

  number_listed : (o : Option ℕ) (vs : List Value) (b : Bool) → some_listed (Some (list_of vs)) ≡ b → some_listed (Some (list_of (cons_option (option_map (value_at (rows_in t) t.objects.items) o) vs))) ≡ (is_some o || b)
  number_listed None vs b e = e
  number_listed (Some n) vs b e = refl

  some_of : (k : ℕ) (os : List ℕ) → some_listed (Some (list_of (filter_map (numbered_value (rows_in t) (live_in t) (plan_in t) (placed t k)) os))) ≡ some_number t k os
  some_of k [] = refl
  some_of k (o ∷ os) = number_listed (number_in (placed t k).objects o) (filter_map (numbered_value (rows_in t) (live_in t) (plan_in t) (placed t k)) os) (some_number t k os) (some_of k os)

  pub lists_are : (k from to : ℕ) (v : GivenValue) → some_listed (Some (content_of (rows_in t) (live_in t) (plan_in t) (placed t k) from to v)) ≡ lists_some t k v
  lists_are k from to (some_objects os) = some_of k os
  lists_are k from to (a_literal v) = refl
  lists_are k from to (a_body b) = refl
  lists_are k from to (an_object o) = refl
  lists_are k from to (an_id n) = refl

  pub none_listed : (g : Given) (n : ℕ) → Tells t g → under g.sources (n, 11) ≡ None → states_given t n ≡ false
  none_listed g n h e = ap some_listed (sym (given_is t g h n 11) ∙ ap (option_map (λ (s : Source). source_content t s n)) e)

  pub some_listed_at : (g : Given) (n : ℕ) (s : Source) → Tells t g → under g.sources (n, 11) ≡ Some s → states_given t n ≡ lists_some t s.place (value_given t s)
  some_listed_at g n s h e = ap some_listed (sym (given_is t g h n 11) ∙ ap (option_map (λ (s : Source). source_content t s n)) e) ∙ lists_are s.place s.author n (value_given t s)

  -- ---- the whole

  abbrev values_of : List (List ℕ × Value) → List Value
  values_of ds = map (λ (d : List ℕ × Value). d.1) ds

  of_first : (b : Bool) (ds : List (List ℕ × Value)) → values_of (cond b ds []) ≡ cond b (values_of ds) []
  of_first true ds = refl
  of_first false ds = refl

  pub object_is : (x : Planned) (delegates own : List (List ℕ × Value)) (shown : List ℕ) (types : List TypeRef) (cells : List NewCell) (starts : Bool)
      → shown ≡ shown_at (rows_in t) x → types ≡ types_at (rows_in t) x → cells ≡ cells_of_object t x (map (λ (d : List ℕ × Value). d.1) own) → own ≡ cond (nat_eq x.number t.first) delegates [] → starts ≡ starts_at t x
      → record { owner = x.owner; shown = shown; types = types; cells = cells; starts = starts } ≡ object_of t (map (λ (d : List ℕ × Value). d.1) delegates) x
  object_is x delegates own shown types cells starts e1 e2 e3 e4 e5 =
      let vs = values_of delegates in
      let held : cells ≡ cells_of_object t x (cond (nat_eq x.number t.first) vs []) = e3 ∙ ap (λ (ds : List (List ℕ × Value)). cells_of_object t x (values_of ds)) e4 ∙ ap (cells_of_object t x) (of_first (nat_eq x.number t.first) delegates) in
      ap (λ (z : List ℕ). record { owner = x.owner; shown = z; types = types; cells = cells; starts = starts }) e1
      ∙ ap (λ (z : List TypeRef). record { owner = x.owner; shown = shown_at (rows_in t) x; types = z; cells = cells; starts = starts }) e2
      ∙ ap (λ (z : List NewCell). record { owner = x.owner; shown = shown_at (rows_in t) x; types = types_at (rows_in t) x; cells = z; starts = starts }) held
      ∙ ap (λ (z : Bool). record { owner = x.owner; shown = shown_at (rows_in t) x; types = types_at (rows_in t) x; cells = cells_of_object t x (cond (nat_eq x.number t.first) vs []); starts = z }) (e5 ∙ sym (starts_are x vs))
