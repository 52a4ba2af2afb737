-- The names of instances are those of the definition.
use Rattle.std.proofs.Common.{◌≡◌, ◌∙◌, ap, sym, refl, ℕ, suc, ◌+◌, ◌<◌, List, [], ◌∷◌, ◌++◌, append_assoc, map, drop, get_or, drop-cons, add-one, length, Option, Some, None}
use Rattle.std.specs.List.{flat_map, filter_map, cons_option}
use Rattle.std.specs.Option.{option_map, unwrap_or}
use Rattle.qml_base.specs.declared.numbers.ObjNo.{ObjNo}
use Rattle.qml_base.specs.declared.numbers.CellNo.{CellNo}
use Rattle.qml_value.specs.declared.value.Value.{Value}
use Rattle.qml_scope.specs.declared.shape.Entry.{Entry}
use Rattle.qml_scope.specs.declared.shape.Shape.{Shape}
use Rattle.instance_plans.specs.declared.planned.PlannedInstance.{PlannedInstance}
use Rattle.instance_plans.specs.Numbers.{component_at, number_in, object_no}
use Rattle.instance_plans.specs.NamesMade.{InstanceNames, names_of_object, names_of_instance, names_seen, id_made, delegates_at, with_delegates}
use Rattle.instance_plans.specs.Shaped.{named_once, entry_made, shape_made}
use Rattle.instance_contents.specs.declared.tables.Tables.{Tables}
use Rattle.instance_contents.specs.Tables.{rows_in, live_in, plan_in, placed, no_instance}
use Rattle.instance_contents.proofs.PlaceLemmas.{head_at, tail_at}
use Rattle.instance_shapes.specs.Shapes.{delegates_of, entry_told, id_if, id_told, ids_told, shape_told, shapes_told, delegate_names, shapes_of_plan}
use Rattle.instance_shapes.proofs.SeenLemmas.{are_seen}

module _ (t : Tables) where
  -- ---- one instance

  entry_is : (k d : ℕ) (at : ℕ × ℕ) → entry_told t k (placed t k) d at ≡ entry_made (names_of_object (rows_in t) (live_in t) (plan_in t) t.first d (placed t k) at)
  entry_is k d at = ap (λ ns. record { object = object_no (at.1); names = named_once ns }) (are_seen t k at (delegates_of t (at.1) d))

  entries_are : (k d : ℕ) (ats : List (ℕ × ℕ)) → map (entry_told t k (placed t k) d) ats ≡ map entry_made (map (names_of_object (rows_in t) (live_in t) (plan_in t) t.first d (placed t k)) ats)
  entries_are k d [] = refl
  entries_are k d (at ∷ ats) =
      ap (λ e. e ∷ map (entry_told t k (placed t k) d) ats) (entry_is k d at)
      ∙ ap (λ es. entry_made (names_of_object (rows_in t) (live_in t) (plan_in t) t.first d (placed t k) at) ∷ es) (entries_are k d ats)

  id_is : (name : List ℕ) (n : Option ℕ) (rest : List (List ℕ × ObjNo)) → id_if name n ++ rest ≡ cons_option (option_map (λ m. (name, object_no m)) n) rest
  id_is name None rest = refl
  id_is name (Some m) rest = refl

  ids_are : (k : ℕ) (ids : List (List ℕ × ℕ)) → ids_told t k ids ≡ filter_map (id_made (rows_in t) (live_in t) (plan_in t) (placed t k)) ids
  ids_are k [] = refl
  ids_are k (id ∷ ids) =
      ap (λ xs. id_told t k id ++ xs) (ids_are k ids)
      ∙ id_is id.0 (number_in (placed t k).objects (id.1)) (filter_map (id_made (rows_in t) (live_in t) (plan_in t) (placed t k)) ids)

  abbrev names_in : ℕ → PlannedInstance → InstanceNames
  names_in d s = names_of_instance (rows_in t) (live_in t) (plan_in t) t.first d s

  -- the names of an instance, with these as delegate names
  abbrev with_names : List (List ℕ × CellNo) → InstanceNames → InstanceNames
  with_names names s = record { unit = s.unit; root = s.root; enclosing = s.enclosing; ids = s.ids; names = names; members = s.members }

  shape_is : (k d : ℕ) (names : List (List ℕ × CellNo)) → shape_told t k (placed t k) d (named_once names) ≡ shape_made (with_names names (names_in d (placed t k)))
  shape_is k d names =
      ap (λ ids. record { unit = (names_in d (placed t k)).unit; root = (names_in d (placed t k)).root; enclosing = (names_in d (placed t k)).enclosing; ids = named_once ids; names = named_once names; members = map (entry_told t k (placed t k) d) (placed t k).objects })
      (ids_are k (component_at (rows_in t) (placed t k).unit (placed t k).component).ids)
      ∙ ap (λ es. record { unit = (names_in d (placed t k)).unit; root = (names_in d (placed t k)).root; enclosing = (names_in d (placed t k)).enclosing; ids = named_once (names_in d (placed t k)).ids; names = named_once names; members = es })
      (entries_are k d (placed t k).objects)

  -- ---- all of them

  at_place : (k : ℕ) (s : PlannedInstance) (rest : List PlannedInstance) → drop k t.instances.items ≡ s ∷ rest → placed t k ≡ s
  at_place k s rest e = ap (λ (o : Option PlannedInstance). unwrap_or o no_instance) (head_at k t.instances.items rest s e)

  shape_here : (k d : ℕ) (names : List (List ℕ × CellNo)) (s : PlannedInstance) → placed t k ≡ s → shape_told t k s d (named_once names) ≡ shape_made (with_names names (names_in d s))
  shape_here k d names s e =
      ap (λ (x : PlannedInstance). shape_told t k x d (named_once names)) (sym e)
      ∙ shape_is k d names
      ∙ ap (λ (x : PlannedInstance). shape_made (with_names names (names_in d x))) e

  others_are : (k d : ℕ) (rest : List PlannedInstance) → drop k t.instances.items ≡ rest → shapes_told t d k [] rest ≡ map shape_made (map (names_in d) rest)
  others_are k d [] e = refl
  others_are k d (s ∷ rest) e =
      ap (λ x. x ∷ shapes_told t d (suc k) [] rest) (shape_here k d [] s (at_place k s rest e))
      ∙ ap (λ xs. shape_made (names_in d s) ∷ xs) (others_are (suc k) d rest (tail_at k t.instances.items rest s e))

  first_is : (d : ℕ) (names : List (List ℕ × CellNo)) (all : List PlannedInstance) → t.instances.items ≡ all → shapes_told t d 0 (named_once names) all ≡ map shape_made (with_delegates names (map (names_in d) all))
  first_is d names [] e = refl
  first_is d names (s ∷ rest) e =
      ap (λ x. x ∷ shapes_told t d 1 [] rest) (shape_here 0 d names s (at_place 0 s rest e))
      ∙ ap (λ xs. shape_made (with_names names (names_in d s)) ∷ xs) (others_are 1 d rest (tail_at 0 t.instances.items rest s e))

pub are_shapes : (t : Tables) (u r : ℕ) (delegates : List (List ℕ × Value)) → shapes_told t (length delegates) 0 (named_once (delegate_names t u r delegates)) t.instances.items ≡ shapes_of_plan t u r delegates
are_shapes t u r delegates = first_is t (length delegates) (delegate_names t u r delegates) t.instances.items refl

-- ---- one instance more

pub item_at : (k : ℕ) (xs : List PlannedInstance) (x : PlannedInstance) → x ≡ get_or xs k x → k < length xs → drop k xs ≡ x ∷ drop (k + 1) xs
item_at k xs x is less = drop-cons xs k x less ∙ ap (λ (y : PlannedInstance). y ∷ drop (suc k) xs) (sym is) ∙ ap (λ m. x ∷ drop m xs) (sym (add-one k))

pub shapes_more : (t : Tables) (d k : ℕ) (names next : List (List ℕ × CellNo)) (xs : List PlannedInstance) (s : PlannedInstance) (before after : List Shape) (z : Shape)
    → s ≡ get_or xs k s → k < length xs → after ≡ before ++ z ∷ [] → z ≡ shape_told t k s d names → next ≡ []
    → after ++ shapes_told t d (k + 1) next (drop (k + 1) xs) ≡ before ++ shapes_told t d k names (drop k xs)
shapes_more t d k names next xs s before after z is less e f none =
    ap (λ ns. after ++ shapes_told t d (k + 1) ns (drop (k + 1) xs)) none
    ∙ ap (λ ss. ss ++ shapes_told t d (k + 1) [] (drop (k + 1) xs)) e
    ∙ append_assoc before (z ∷ []) (shapes_told t d (k + 1) [] (drop (k + 1) xs))
    ∙ ap (λ y. before ++ (y ∷ shapes_told t d (k + 1) [] (drop (k + 1) xs))) f
    ∙ ap (λ m. before ++ (shape_told t k s d names ∷ shapes_told t d m [] (drop (k + 1) xs))) (add-one k)
    ∙ ap (λ ss. before ++ shapes_told t d k names ss) (sym (item_at k xs s is less))
