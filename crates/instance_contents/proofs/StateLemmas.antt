-- That the names that are put for States are those of the definitions.
use Rattle.std.proofs.Common.{◌≡◌, ◌∙◌, ap, sym, refl, ℕ, suc, Bool, true, false, cond, ◌&&◌, ◌||◌, nat_eq, List, [], ◌∷◌, ◌++◌, map, append-nil, append_assoc, Option, Some, None, is_some}
use Rattle.std.specs.List.{filter_map, list_any, cons_option}
use Rattle.std.specs.Option.{option_map, option_or, is_none}
use Rattle.std.proofs.lemmas.Bool.{false≢true}
use Rattle.qml_base.specs.declared.numbers.CellNo.{CellNo}
use Rattle.qml_value.specs.declared.value.Value.{Value, Object as AnObject, Component as AComponent}
use Rattle.qml_types.specs.declared.kind.TypeNo.{TypeNo}
use Rattle.qml_types.specs.declared.kind.TypeNo.TheVariants as no
use Rattle.program_names.specs.Layers.{same_type}
use Rattle.unit_rows.specs.declared.given.GivenValue.{GivenValue}
use Rattle.unit_rows.specs.declared.given.GivenValue.TheVariants.{Literal as a_literal, Body as a_body, Object as an_object, Objects as some_objects, Id as an_id}
use Rattle.instance_plans.specs.Numbers.{number_in, builtin_at, value_at, is_component_at, cell_no, object_no}
use Rattle.instance_plans.specs.Contents.{Content, GivenCell, content_of, numbered_value, given_in, is_unnamed, anonymous_from, values_listed, anonymous_in, anonymous}
use Rattle.qml_scope.specs.Shapes.{same_cell}
use Rattle.pair_table.specs.Pairs.{same_pair, under, each_put}
use Rattle.pair_table.proofs.EachLemmas.{under_append, under_each}
use Rattle.instance_contents.specs.declared.given.Source.{Source}
use Rattle.instance_contents.specs.declared.given.Given.{Given}
use Rattle.instance_contents.specs.declared.tables.Tables.{Tables}
use Rattle.instance_contents.specs.Tables.{rows_in, live_in, plan_in, placed}
use Rattle.instance_contents.specs.Sources.{Sources, sources_from, value_given, source_content, given_all, is_unnamed_state, number_or_none, namings_from, namings_of, namings, state_name, Tells}
use Rattle.instance_contents.proofs.PlaceLemmas.{same_turned}
use Rattle.instance_contents.proofs.SourceLemmas.{given_seen, all_given_seen, given_is}

-- ---- the rows that count, one for each cell

abbrev new_of : Sources → Sources → Sources
new_of rows [] = []
new_of rows (x ∷ xs) = cond (is_some (under rows x.0)) (new_of rows xs) (x ∷ new_of (rows ++ x ∷ []) xs)

put_step : (rows xs : Sources) (x : (ℕ × ℕ) × Source) (b : Bool) → (each_put rows xs ≡ rows ++ new_of rows xs) → (each_put (rows ++ x ∷ []) xs ≡ (rows ++ x ∷ []) ++ new_of (rows ++ x ∷ []) xs)
    → each_put (cond b rows (rows ++ x ∷ [])) xs ≡ rows ++ cond b (new_of rows xs) (x ∷ new_of (rows ++ x ∷ []) xs)
put_step rows xs x true old new = old
put_step rows xs x false old new = new ∙ append_assoc rows (x ∷ []) (new_of (rows ++ x ∷ []) xs)

puts_new : (rows xs : Sources) → each_put rows xs ≡ rows ++ new_of rows xs
puts_new rows [] = sym (append-nil rows)
puts_new rows (x ∷ xs) = put_step rows xs x (is_some (under rows x.0)) (puts_new rows xs) (puts_new (rows ++ x ∷ []) xs)

module _ (t : Tables) (c : CellNo) where
  abbrev among : List GivenCell → Option Content
  among [] = None
  among (x ∷ rest) = option_or (anonymous_from (rows_in t) (plan_in t) (given_all t) 1 (values_listed (rows_in t) (plan_in t) (given_all t) x.content) c) (among rest)

  turned : (a b : Bool) → (a || b) ≡ (b || a)
  turned true true = refl
  turned true false = refl
  turned false true = refl
  turned false false = refl

  some_or : (o p : Option Source) → is_some (option_or o p) ≡ (is_some o || is_some p)
  some_or None p = refl
  some_or (Some x) p = refl

  some_one : (b : Bool) (s : Source) → is_some (cond b (Some s) None) ≡ b
  some_one true s = refl
  some_one false s = refl

  seen_more : (rows : Sources) (seen : List CellNo) (x : (ℕ × ℕ) × Source) → ((d : CellNo) → list_any (same_cell d) seen ≡ is_some (under rows (d.object.0, d.place)))
      → (d : CellNo) → list_any (same_cell d) (cell_no (x.0).0 (x.0).1 ∷ seen) ≡ is_some (under (rows ++ x ∷ []) (d.object.0, d.place))
  seen_more rows seen x h d =
      let key : ℕ × ℕ = (d.object.0, d.place) in
      ap (λ (b : Bool). same_pair key x.0 || b) (h d)
      ∙ turned (same_pair key x.0) (is_some (under rows key))
      ∙ ap (λ (b : Bool). is_some (under rows key) || b) (sym (some_one (same_pair key x.0) x.1))
      ∙ sym (some_or (under rows key) (under (x ∷ []) key))
      ∙ ap is_some (sym (under_append rows (x ∷ []) key))

  counted_step : (rows xs : Sources) (seen : List CellNo) (x : (ℕ × ℕ) × Source) (b : Bool)
      → anonymous_in (rows_in t) (plan_in t) (given_all t) (map (given_seen t) xs) seen c ≡ among (map (given_seen t) (new_of rows xs))
      → anonymous_in (rows_in t) (plan_in t) (given_all t) (map (given_seen t) xs) (cell_no (x.0).0 (x.0).1 ∷ seen) c ≡ among (map (given_seen t) (new_of (rows ++ x ∷ []) xs))
      → elim b as (λ _. Option Content) [
        | true ↦ anonymous_in (rows_in t) (plan_in t) (given_all t) (map (given_seen t) xs) seen c
        | false ↦ option_or (anonymous_from (rows_in t) (plan_in t) (given_all t) 1 (values_listed (rows_in t) (plan_in t) (given_all t) (source_content t x.1 (x.0).0)) c) (anonymous_in (rows_in t) (plan_in t) (given_all t) (map (given_seen t) xs) (cell_no (x.0).0 (x.0).1 ∷ seen) c)
      ] ≡ among (map (given_seen t) (cond b (new_of rows xs) (x ∷ new_of (rows ++ x ∷ []) xs)))
  counted_step rows xs seen x true old new = old
  counted_step rows xs seen x false old new = ap (λ (o : Option Content). option_or (anonymous_from (rows_in t) (plan_in t) (given_all t) 1 (values_listed (rows_in t) (plan_in t) (given_all t) (source_content t x.1 (x.0).0)) c) o) new

  -- those of rows that don't count aren't looked at
  counted : (rows xs : Sources) (seen : List CellNo) → ((d : CellNo) → list_any (same_cell d) seen ≡ is_some (under rows (d.object.0, d.place)))
      → anonymous_in (rows_in t) (plan_in t) (given_all t) (map (given_seen t) xs) seen c ≡ among (map (given_seen t) (new_of rows xs))
  counted rows [] seen h = refl
  counted rows (x ∷ xs) seen h =
      ap (λ (b : Bool). elim b as (λ _. Option Content) [
        | true ↦ anonymous_in (rows_in t) (plan_in t) (given_all t) (map (given_seen t) xs) seen c
        | false ↦ option_or (anonymous_from (rows_in t) (plan_in t) (given_all t) 1 (values_listed (rows_in t) (plan_in t) (given_all t) (source_content t x.1 (x.0).0)) c) (anonymous_in (rows_in t) (plan_in t) (given_all t) (map (given_seen t) xs) (cell_no (x.0).0 (x.0).1 ∷ seen) c)
      ]) (h (cell_no (x.0).0 (x.0).1))
      ∙ counted_step rows xs seen x (is_some (under rows x.0)) (counted rows xs seen h) (counted (rows ++ x ∷ []) xs (cell_no (x.0).0 (x.0).1 ∷ seen) (seen_more rows seen x h))

  -- ---- the names of one list

  module _ (g : Given) (h : Tells t g) where
    no_state : (b : TypeNo) → same_type no.Component b ≡ true → same_type no.State b ≡ false
    no_state no.State e = absurd (false≢true e)
    no_state no.QtObject e = refl
    no_state no.Component e = refl
    no_state no.Item e = refl
    no_state no.Timer e = refl
    no_state no.Connections e = refl
    no_state no.Binding e = refl
    no_state no.PropertyChanges e = refl
    no_state no.ListModel e = refl
    no_state no.ListElement e = refl
    no_state no.Repeater e = refl
    no_state no.Loader e = refl
    no_state no.Host e = refl

    none_mapped : (f : Source → Content) (o : Option Source) → is_none (option_map f o) ≡ is_none o
    none_mapped f None = refl
    none_mapped f (Some s) = refl

    none_given : (n : ℕ) → is_none (given_in (given_all t) (cell_no n 1)) ≡ is_none (under g.sources (n, 1))
    none_given n = ap is_none (sym (given_is t g h n 1)) ∙ none_mapped (λ (s : Source). source_content t s n) (under g.sources (n, 1))

    value_unnamed : (n : ℕ) (b : Bool) → same_type no.Component (builtin_at (rows_in t) t.objects.items n) ≡ b
        → is_unnamed (rows_in t) (plan_in t) (given_all t) (cond b (AComponent (object_no n)) (AnObject (object_no n))) ≡ is_unnamed_state t g.sources n
    value_unnamed n true e = ap (λ (x : Bool). x && is_none (under g.sources (n, 1))) (sym (no_state (builtin_at (rows_in t) t.objects.items n) e))
    value_unnamed n false e = ap (λ (x : Bool). same_type no.State (builtin_at (rows_in t) t.objects.items n) && x) (none_given n)

    both_turned : (a b d e : ℕ) → (nat_eq a b && nat_eq d e) ≡ (nat_eq b a && nat_eq e d)
    both_turned a b d e = ap (λ (x : Bool). x && nat_eq d e) (same_turned a b) ∙ ap (λ (x : Bool). nat_eq b a && x) (same_turned d e)

    mapped_step : (b : Bool) (i : ℕ) (o : Option ℕ) (p : Option Content) → p ≡ option_map state_name o → cond b (Some (state_name i)) p ≡ option_map state_name (cond b (Some i) o)
    mapped_step true i o p e = refl
    mapped_step false i o p e = e

    abbrev names_under : ℕ → ℕ → List ℕ → Option Content
    names_under k i os = option_map state_name (under (namings_from t g.sources k i os) (c.object.0, c.place))

    abbrev from_values : ℕ → List Value → Option Content
    from_values i vs = anonymous_from (rows_in t) (plan_in t) (given_all t) i vs c

    abbrev numbered_in : ℕ → List ℕ → List Value
    numbered_in k os = filter_map (numbered_value (rows_in t) (live_in t) (plan_in t) (placed t k)) os

    state_step : (k n i : ℕ) (os : List ℕ) (b : Bool) → ((j : ℕ) → from_values j (numbered_in k os) ≡ names_under k j os)
        → elim b as (λ _. Option Content) [
          | true ↦ cond (same_cell (cell_no n 1) c) (Some (state_name i)) (from_values (suc i) (numbered_in k os))
          | false ↦ from_values i (numbered_in k os)
        ] ≡ option_map state_name (under (elim (cond b (Some n) None) as (λ _. List ((ℕ × ℕ) × ℕ)) [ None ↦ namings_from t g.sources k i os | Some m ↦ ((m, 1), i) ∷ namings_from t g.sources k (suc i) os ]) (c.object.0, c.place))
    state_step k n i os true rest =
        ap (λ (b : Bool). cond b (Some (state_name i)) (from_values (suc i) (numbered_in k os))) (both_turned n c.object.0 1 c.place)
        ∙ mapped_step (nat_eq c.object.0 n && nat_eq c.place 1) i (under (namings_from t g.sources k (suc i) os) (c.object.0, c.place)) (from_values (suc i) (numbered_in k os)) (rest (suc i))
    state_step k n i os false rest = rest i

    object_step : (k n i : ℕ) (os : List ℕ) (b : Bool) → same_type no.Component (builtin_at (rows_in t) t.objects.items n) ≡ b → ((j : ℕ) → from_values j (numbered_in k os) ≡ names_under k j os)
        → from_values i (cond b (AComponent (object_no n)) (AnObject (object_no n)) ∷ numbered_in k os)
        ≡ option_map state_name (under (elim (number_or_none t g.sources (Some n)) as (λ _. List ((ℕ × ℕ) × ℕ)) [ None ↦ namings_from t g.sources k i os | Some m ↦ ((m, 1), i) ∷ namings_from t g.sources k (suc i) os ]) (c.object.0, c.place))
    object_step k n i os true e rest =
        rest i ∙ ap (λ (x : Bool). option_map state_name (under (elim (cond x (Some n) None) as (λ _. List ((ℕ × ℕ) × ℕ)) [ None ↦ namings_from t g.sources k i os | Some m ↦ ((m, 1), i) ∷ namings_from t g.sources k (suc i) os ]) (c.object.0, c.place))) (value_unnamed n true e)
    object_step k n i os false e rest =
        ap (λ (x : Bool). elim x as (λ _. Option Content) [
          | true ↦ cond (same_cell (cell_no n 1) c) (Some (state_name i)) (from_values (suc i) (numbered_in k os))
          | false ↦ from_values i (numbered_in k os)
        ]) (value_unnamed n false e)
        ∙ state_step k n i os (is_unnamed_state t g.sources n) rest

    number_step : (k i : ℕ) (os : List ℕ) (m : Option ℕ) → ((j : ℕ) → from_values j (numbered_in k os) ≡ names_under k j os)
        → from_values i (cons_option (option_map (value_at (rows_in t) t.objects.items) m) (numbered_in k os))
        ≡ option_map state_name (under (elim (number_or_none t g.sources m) as (λ _. List ((ℕ × ℕ) × ℕ)) [ None ↦ namings_from t g.sources k i os | Some n ↦ ((n, 1), i) ∷ namings_from t g.sources k (suc i) os ]) (c.object.0, c.place))
    number_step k i os None rest = rest i
    number_step k i os (Some n) rest = object_step k n i os (is_component_at (rows_in t) t.objects.items n) refl rest

    listed_from : (k : ℕ) (os : List ℕ) (i : ℕ) → from_values i (numbered_in k os) ≡ names_under k i os
    listed_from k [] i = refl
    listed_from k (o ∷ os) i = number_step k i os (number_in (placed t k).objects o) (listed_from k os)

    listed_is : (k from to : ℕ) (v : GivenValue) → from_values 1 (values_listed (rows_in t) (plan_in t) (given_all t) (content_of (rows_in t) (live_in t) (plan_in t) (placed t k) from to v)) ≡ option_map state_name (under (namings_of t g.sources k v) (c.object.0, c.place))
    listed_is k from to (some_objects os) = listed_from k os 1
    listed_is k from to (a_literal v) = refl
    listed_is k from to (a_body b) = refl
    listed_is k from to (an_object o) = refl
    listed_is k from to (an_id n) = refl

    or_mapped : (a b : Option ℕ) → option_or (option_map state_name a) (option_map state_name b) ≡ option_map state_name (option_or a b)
    or_mapped None b = refl
    or_mapped (Some x) b = refl

    among_is : (xs : Sources) → among (map (given_seen t) xs) ≡ option_map state_name (under (namings t g.sources xs) (c.object.0, c.place))
    among_is [] = refl
    among_is (x ∷ xs) =
        let first = under (namings_of t g.sources (x.1).place (value_given t x.1)) (c.object.0, c.place) in
        ap (λ (o : Option Content). option_or o (among (map (given_seen t) xs))) (listed_is (x.1).place (x.1).author (x.0).0 (value_given t x.1))
        ∙ ap (λ (o : Option Content). option_or (option_map state_name first) o) (among_is xs)
        ∙ or_mapped first (under (namings t g.sources xs) (c.object.0, c.place))
        ∙ ap (option_map state_name) (sym (under_append (namings_of t g.sources (x.1).place (value_given t x.1)) (namings t g.sources xs) (c.object.0, c.place)))

    all_named : option_map state_name (under g.names (c.object.0, c.place)) ≡ anonymous (rows_in t) (plan_in t) (given_all t) c
    all_named =
        ap (λ (ns : List ((ℕ × ℕ) × ℕ)). option_map state_name (under ns (c.object.0, c.place))) h.names
        ∙ ap (option_map state_name) (under_each [] (namings t g.sources g.sources) (c.object.0, c.place))
        ∙ sym (among_is g.sources)
        ∙ ap (λ (xs : Sources). among (map (given_seen t) xs)) (h.sources ∙ puts_new [] (sources_from t 0 t.instances.items))
        ∙ sym (counted [] (sources_from t 0 t.instances.items) [] (λ d. refl))
        ∙ ap (λ (xs : List GivenCell). anonymous_in (rows_in t) (plan_in t) (given_all t) xs [] c) (all_given_seen t)

pub anonymous_is : (t : Tables) (g : Given) → Tells t g → (n p : ℕ) → option_map state_name (under g.names (n, p)) ≡ anonymous (rows_in t) (plan_in t) (given_all t) (cell_no n p)
anonymous_is t g h n p = all_named t (cell_no n p) g h
