-- From the table of names to the definition.
use Rattle.std.proofs.Common.{◌≡◌, ◌∙◌, ap, sym, refl, ℕ, ◌<◌, length, Bool, true, false, cond, List, [], ◌∷◌, ◌++◌, map, is_some, slice_get, arith, Option, Some, None}
use Rattle.std.specs.Str.{bytes_eq}
use Rattle.std.specs.List.{filter_map, cons_option, find}
use Rattle.std.proofs.lemmas.Slice.Eq.{bytes_eq-Decides}
use Rattle.program_tables.proofs.NameLemmas.{under_all}
use Rattle.std.specs.Option.{option_map, option_or, option_and_then, unwrap_or}
use Rattle.qml_base.specs.declared.numbers.CellNo.{CellNo}
use Rattle.qml_base.specs.declared.names.Found.{Found}
use Rattle.qml_base.specs.declared.names.Found.TheVariants as finds
use Rattle.qml_value.specs.declared.value.Value.{Value}
use Rattle.name_table.specs.Named.{under, put}
use Rattle.instance_plans.specs.Shaped.{each_put}
use Rattle.instance_plans.specs.NamesMade.{NameMade, names_seen, with_found}
use Rattle.instance_plans.specs.Plans.{handed_to, cell_of_field}
use Rattle.instance_plans.specs.declared.planned.PlannedInstance.{PlannedInstance}
use Rattle.instance_contents.specs.declared.tables.Tables.{Tables}
use Rattle.instance_contents.specs.Tables.{rows_in, live_in, plan_in, placed, no_instance}
use Rattle.instance_shapes.specs.Told.{pairs_seen}
use Rattle.instance_shapes.proofs.SeenLemmas.{are_seen}
use Rattle.handed_fields.specs.Handed.{cell_behind, cell_under, handed_under}

turned : (xs ys : List ℕ) → bytes_eq xs ys ≡ bytes_eq ys xs
turned xs ys = grind (arith, bytes_eq-Decides)

filter_same : {X Y : Type 0} (f g : X → Option Y) (xs : List X) → ((x : X) → f x ≡ g x) → filter_map f xs ≡ filter_map g xs
filter_same f g [] h = refl
filter_same f g (x ∷ xs) h = ap (λ o. cons_option o (filter_map f xs)) (h x) ∙ ap (cons_option (g x)) (filter_same f g xs h)

module _ (t : Tables) where
  abbrev paired : NameMade → List ℕ × Found
  paired n = with_found (rows_in t) (live_in t) (plan_in t) n

  abbrev found_of : Option NameMade → Option Found
  found_of o = option_map (λ (n : NameMade). n.found) o

  named : (ns : List NameMade) (name : List ℕ) → under (map paired ns) name ≡ found_of (find (λ (n : NameMade). bytes_eq n.name name) ns)
  named [] name = refl
  named (n ∷ ns) name = ap (λ (b : Bool). cond b (Some n.found) (under (map paired ns) name)) (turned name n.name) ∙ by_test (bytes_eq n.name name) (named ns name)
    where
      by_test : (b : Bool) → under (map paired ns) name ≡ found_of (find (λ (x : NameMade). bytes_eq x.name name) ns)
          → cond b (Some n.found) (under (map paired ns) name) ≡ found_of (cond b (Some n) (find (λ (x : NameMade). bytes_eq x.name name) ns))
      by_test true e = refl
      by_test false e = e

  behind : (v : Value) (f : Found) → option_map (λ (c : CellNo). (c, v)) (cell_behind t f) ≡ handed_to (rows_in t) (plan_in t) v f
  behind v (finds.Cell c) = refl
  behind v f = refl

  by_name : (v : Value) (o : Option NameMade) → option_map (λ (c : CellNo). (c, v)) (option_and_then (cell_behind t) (found_of o)) ≡ option_and_then (λ (n : NameMade). handed_to (rows_in t) (plan_in t) v n.found) o
  by_name v None = refl
  by_name v (Some n) = behind v n.found

  one_handed : (ns : List NameMade) (names : List (List ℕ × Found)) → names ≡ each_put [] (map paired ns) → (f : List ℕ × Value) → handed_under t names f ≡ cell_of_field (rows_in t) (plan_in t) ns f
  one_handed ns names e f =
      ap (λ xs. handed_under t xs f) e
      ∙ ap (λ o. option_map (λ (c : CellNo). (c, f.1)) (option_and_then (cell_behind t) o)) (under_all [] (map paired ns) (f.0) ∙ named ns (f.0))
      ∙ by_name (f.1) (find (λ (n : NameMade). bytes_eq n.name (f.0)) ns)

  pub handed_so : (root : PlannedInstance) (r delegates : ℕ) (names : List (List ℕ × Found)) (fields : List (List ℕ × Value)) (handed : List (CellNo × Value))
      → slice_get t.instances.items 0 ≡ Some root → names ≡ each_put [] (pairs_seen t 0 root (r, t.first) delegates) → handed ≡ filter_map (handed_under t names) fields
      → handed ≡ filter_map (cell_of_field (rows_in t) (plan_in t) (names_seen (rows_in t) (live_in t) (plan_in t) (placed t 0) (r, t.first) delegates)) fields
  handed_so root r delegates names fields handed here e f =
      let ns = names_seen (rows_in t) (live_in t) (plan_in t) (placed t 0) (r, t.first) delegates in
      let is : root ≡ placed t 0 = sym (ap (λ (o : Option PlannedInstance). unwrap_or o no_instance) here) in
      f ∙ filter_same (handed_under t names) (cell_of_field (rows_in t) (plan_in t) ns) fields
      (one_handed ns names (e ∙ ap (λ s. each_put [] (pairs_seen t 0 s (r, t.first) delegates)) is ∙ ap (each_put []) (are_seen t 0 (r, t.first) delegates)))
