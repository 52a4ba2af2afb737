-- What objects decide is what the rounds come to.
use Rattle.std.proofs.Common.{◌≡◌, ◌∙◌, ap, sym, refl, subst, ℕ, zero, suc, ◌+◌, ◌*◌, ◌<◌, ◌≤◌, arith, add-one, Bool, true, false, List, [], ◌∷◌, ◌++◌, length, map, get_or, drop, drop-cons, Option, Some, None, is_some}
use Rattle.std.specs.Prelude.{◌&&◌, not, nat_eq, if◌then◌else◌, slice_get}
use Rattle.std.specs.Option.{option_map, option_and_then, unwrap_or}
use Rattle.std.specs.List.{sum_by}
use Rattle.std.specs.Str.{bytes_eq}
use Rattle.std.specs.declared.alloc.Global.{Global}
use Rattle.std.specs.declared.vec.Vec.{Vec}
use Rattle.std.proofs.Math.ListN.{drop_of_length-le}
use Rattle.std.proofs.lemmas.Bool.{false≢true}
use Rattle.std.proofs.lemmas.Bool.Decides.{nat_tests}
use Rattle.std.proofs.lemmas.List.{map-append, append-nil}
use Rattle.qml_syntax.specs.Tree.{Units}
use Rattle.qml_types.specs.declared.kind.TypeNo.{TypeNo}
use Rattle.qml_types.specs.declared.kind.TypeNo.TheVariants as no
use Rattle.qml_types.specs.declared.kind.TypeRef.TheVariants.{Builtin}
use Rattle.qml_types.specs.declared.kind.PropKind.{PropKind}
use Rattle.qml_types.specs.declared.kind.Access.{Access}
use Rattle.qml_types.specs.declared.members.DefaultMember.TheVariants as member
use Rattle.qml_types.specs.Table.{TypeCell, cells_of}
use Rattle.program_names.specs.Names.{raised}
use Rattle.program_names.specs.Written.{as_child, as_value}
use Rattle.program_names.specs.Loaded.{Program, object_at}
use Rattle.program_names.specs.Layers.{NameMeaning, a_cell, Named, names, is_type, meaning, DefaultProperty, no_default, to_property, to_component, parameters_of, joined_names, handled_in}
use Rattle.program_names.specs.Components.{IsRoot, Roots}
use Rattle.program_names.specs.PathMeanings.{SeenObject, way_to, here, at_cell, at_object, end_of, PathMeaning, a_property_of, an_object_of, a_handler, children_of, no_meaning, without_target, meaning_of_path, end_by_meaning, end_within, aliases_of_unit, by_end, is_cell, is_children, or_handler, meaning_behind}
use Rattle.program_names.specs.ComponentRoots.{is_change, meaning_given, root_as}
use Rattle.document_rows.specs.declared.rows.ObjectRow.{ObjectRow}
use Rattle.document_members.specs.declared.member.Member.{Member}
use Rattle.document_members.specs.declared.member.Member.TheVariants as m
use Rattle.program_tables.specs.declared.built_in.BuiltInName.TheVariants as b
use Rattle.program_tables.specs.declared.names.Meaning.{Meaning}
use Rattle.program_tables.specs.declared.names.Meaning.TheVariants as means
use Rattle.program_tables.specs.declared.names.DefaultPlace.{DefaultPlace}
use Rattle.program_tables.specs.declared.names.DefaultPlace.TheVariants as place
use Rattle.program_tables.specs.declared.names.UnitNames.{UnitNames}
use Rattle.program_tables.specs.declared.building.UnitRow.{UnitRow}
use Rattle.program_tables.specs.Walk.{found_at}
use Rattle.program_tables.specs.Defaults.{default_at}
use Rattle.program_tables.specs.Stands.{is_there, meant, default_meant, Stands}
use Rattle.program_tables.proofs.MeaningLemmas.{found_as_meant}
use Rattle.program_tables.proofs.TypeLemmas.{types_as_meant}
use Rattle.program_tables.proofs.DefaultLemmas.{default_as_meant}
use Rattle.component_roots.specs.Decided.{AreDecided}
use Rattle.component_roots.specs.Deciding.{begins_on, is_component, of_kind, by_meaning, by_name, name_of_place, by_default, by_path, by_member, by_row, decision, decisions, SaysRole, ObjectSays, ObjectsSay, AreDecisions}

-- ---- the loop

assoc : {A : Type 0} (a b c : List A) → (a ++ b) ++ c ≡ a ++ (b ++ c)
assoc [] b c = refl
assoc (x ∷ a) b c = ap (λ xs. x ∷ xs) (assoc a b c)

pub one_more : (us : List UnitNames) (d : ℕ) (rows : List UnitRow) (objects : List ObjectRow) (i : ℕ) (x : ObjectRow) (xs ys : List Bool) (begins : Bool) (all : List (Option Bool)) → i < length objects
    → Some begins ≡ decision us d i rows (get_or objects i x).row → ys ≡ xs ++ begins ∷ [] → map Some xs ++ decisions us d rows i (drop i objects) ≡ all
    → map Some ys ++ decisions us d rows (i + 1) (drop (i + 1) objects) ≡ all
one_more us d rows objects i x xs ys begins all h e y l =
    ap (λ k. map Some ys ++ decisions us d rows k (drop k objects)) (add-one i) ∙
    ap (λ zs. map Some zs ++ decisions us d rows (suc i) (drop (suc i) objects)) y ∙
    ap (λ zs. zs ++ decisions us d rows (suc i) (drop (suc i) objects)) (map-append Some xs (begins ∷ [])) ∙
    assoc (map Some xs) (Some begins ∷ []) (decisions us d rows (suc i) (drop (suc i) objects)) ∙
    ap (λ z. map Some xs ++ (z ∷ decisions us d rows (suc i) (drop (suc i) objects))) e ∙
    ap (λ os. map Some xs ++ decisions us d rows i os) (sym (drop-cons objects i x h)) ∙ l

pub all_done : (us : List UnitNames) (d : ℕ) (rows : List UnitRow) (objects : List ObjectRow) (i : ℕ) (xs : List Bool) (all : List (Option Bool)) → length objects ≤ i
    → map Some xs ++ decisions us d rows i (drop i objects) ≡ all → map Some xs ≡ all
all_done us d rows objects i xs all past l =
    sym (append-nil (map Some xs)) ∙ ap (λ os. map Some xs ++ decisions us d rows i os) (sym (drop_of_length-le objects past)) ∙ l

pub name_there : {X : Type 0} (f : X → TypeCell) (t : TypeNo) (n : ℕ) (r : Option X) (v : X) (text : Units) → option_map f r ≡ slice_get (cells_of t) n → r ≡ Some v → text ≡ (f v).name → text ≡ name_of_place t n
name_there f t n r v text e i g = g ∙ ap (λ x. unwrap_or (option_map (λ (cell : TypeCell). cell.name) x) []) (sym (ap (option_map f) i) ∙ e)

pub name_nowhere : {X : Type 0} (f : X → TypeCell) (t : TypeNo) (n : ℕ) (r : Option X) (text : Units) → option_map f r ≡ slice_get (cells_of t) n → r ≡ None → text ≡ [] → text ≡ name_of_place t n
name_nowhere f t n r text e i g = g ∙ ap (λ x. unwrap_or (option_map (λ (cell : TypeCell). cell.name) x) []) (sym (ap (option_map f) i) ∙ e)

-- ---- the definition, by the words that it is made of

end_at_once : (p : Program) (roots : Roots) (s : SeenObject) → end_of p roots s [] ≡ at_object s
end_at_once p roots s = ap (λ k. end_within k p roots s []) (some_steps (sum_by aliases_of_unit p))
  where
    some_steps : (n : ℕ) → 4 + 0 + 4 * n ≡ suc (3 + 4 * n)
    some_steps n = omega arith

end_at_cell : (p : Program) (roots : Roots) (s : SeenObject) (n : Units) (place : ℕ) (k : PropKind) (a : Access) → meaning p s.document s.object n ≡ Some (a_cell place k a)
    → end_of p roots s (n ∷ []) ≡ at_cell (way_to s) place k a
end_at_cell p roots s n place k a e =
    ap (λ f. end_within f p roots s (n ∷ [])) (some_steps (sum_by aliases_of_unit p)) ∙
    ap (end_by_meaning (λ t path. end_within (4 + 4 * sum_by aliases_of_unit p) p roots t path) p roots s []) e
  where
    some_steps : (n : ℕ) → 4 + 1 + 4 * n ≡ suc (4 + 4 * n)
    some_steps n = omega arith

path_so : (p : Program) (roots : Roots) (s : SeenObject) (n : Units) → meaning_of_path p roots s (n ∷ []) ≡ meaning_behind p roots true (end_of p roots s []) n
path_so p roots s n = refl

-- ---- names that are no handlers'

and_none : (a : Bool) → (a && false) ≡ false
and_none true = refl
and_none false = refl

three : (a b c : Bool) → (a && b) ≡ false → (a && (b && c)) ≡ false
three true true c e = absurd (false≢true (sym e))
three true false c e = refl
three false b c e = refl

either_way : (a b : ℕ) → nat_eq a b ≡ nat_eq b a
either_way a b = grind (arith, nat_tests)

other_name : (r word : Units) → begins_on word ≡ false → bytes_eq (111 ∷ 110 ∷ r) word ≡ false
other_name r [] e = refl
other_name r (x ∷ []) e = and_none (nat_eq 111 x)
other_name r (x ∷ y ∷ rest) e =
    three (nat_eq 111 x) (nat_eq 110 y) (bytes_eq r rest) (ap (λ c. c && nat_eq 110 y) (either_way 111 x) ∙ ap (λ c. nat_eq x 111 && c) (either_way 110 y) ∙ e)

none_handled : (word : Units) → begins_on word ≡ false → (ns : List Named) → handled_in word ns ≡ None
none_handled word e [] = refl
none_handled word e (n ∷ ns) =
    ap (λ c. joined_names (if c then parameters_of n.what else None) (handled_in word ns)) (other_name (raised n.name) word e) ∙ none_handled word e ns

-- ---- a name of a cell

path_means : (p : Program) (roots : Roots) (d w : ℕ) (n : Units) (place : ℕ) (k : PropKind) (a : Access) → begins_on n ≡ false → meaning p d w n ≡ Some (a_cell place k a)
    → meaning_of_path p roots (here d w) (n ∷ []) ≡ a_property_of (way_to (here d w)) place k a true
path_means p roots d w n place k a h e =
    ap (λ x. meaning_behind p roots true x n) (end_at_once p roots (here d w)) ∙
    ap (λ x. or_handler true x (if true && is_children (meaning p d w n) then children_of (way_to (here d w)) else by_end (true && is_cell (meaning p d w n)) (end_of p roots (here d w) (n ∷ []))))
    (none_handled n h (names p d w)) ∙
    ap (λ x. if true && is_children x then children_of (way_to (here d w)) else by_end (true && is_cell x) (end_of p roots (here d w) (n ∷ []))) e ∙
    ap (by_end true) (end_at_cell p roots (here d w) n place k a e)

abbrev is_own_name : Program → ℕ → ℕ → List Units → Bool
is_own_name p d o [] = true
is_own_name p d o (n ∷ rest) = is_some (meaning p d o n)

abbrev no_handler : PathMeaning → Bool
no_handler (a_handler names) = false
no_handler _ = true

no_change : (p : Program) (roots : Roots) (d w : ℕ) (n : Units) (x : NameMeaning) → meaning p d w n ≡ Some x → is_change p roots d w (n ∷ []) ≡ false
no_change p roots d w n x e =
    ap (λ c. is_type p d w no.PropertyChanges && (not c && no_handler (meaning_of_path p roots (here d w) (n ∷ [])))) (ap is_some e) ∙
    and_none (is_type p d w no.PropertyChanges)

abbrev meaning_if : Bool → PathMeaning → PathMeaning → PathMeaning
meaning_if c x y = elim c [ true ↦ x | false ↦ y ]

given_means : (p : Program) (roots : Roots) (d w : ℕ) (n : Units) (place : ℕ) (k : PropKind) (a : Access) → begins_on n ≡ false → meaning p d w n ≡ Some (a_cell place k a)
    → meaning_given p roots d w (n ∷ []) ≡ a_property_of (way_to (here d w)) place k a true
given_means p roots d w n place k a h e =
    from_choice (is_change p roots d w (n ∷ [])) (no_change p roots d w n (a_cell place k a) e) _ ∙ path_means p roots d w n place k a h e
  where
    from_choice : (c : Bool) → c ≡ false → (x : PathMeaning) → meaning_if c x (meaning_of_path p roots (here d w) (n ∷ [])) ≡ meaning_of_path p roots (here d w) (n ∷ [])
    from_choice true i x = absurd (false≢true (sym i))
    from_choice false i x = refl

abbrev root_by : Program → ℕ → ℕ → PathMeaning → IsRoot
root_by p d o (a_property_of w place k a own) = Some (is_component k && not (is_type p d o no.Component))
root_by p d o (an_object_of s) = Some false
root_by p d o (a_handler names) = Some false
root_by p d o (children_of w) = Some false
root_by p d o no_meaning = None
root_by p d o without_target = None

abbrev root_as_child : Program → Roots → ℕ → ℕ → ℕ → DefaultProperty → IsRoot
root_as_child p roots d o w to_component = Some true
root_as_child p roots d o w (to_property n) = root_by p d o (meaning_of_path p roots (here d w) (n ∷ []))
root_as_child p roots d o w _ = Some false

none_some : {A : Type 0} {X : Type 0} (x : A) → Path (Option A) None (Some x) → X
none_some x e = absurd (false≢true (ap is_some e))

module _ (p : Program) (us : List UnitNames) (stands : Stands p us) (d o : ℕ) (there : is_there us d o ≡ true) where
  kind_decides : (k : PropKind) → of_kind us d o k ≡ (is_component k && not (is_type p d o no.Component))
  kind_decides k = ap (λ c. is_component k && not c) (types_as_meant p us stands d o there (Builtin no.Component))

  -- the cell that a name is, where it decides
  record Cells (w : ℕ) (n : Units) (c : Bool) : Type 0 where
    place : ℕ
    kind : PropKind
    access : Access
    no_handler_name : begins_on n ≡ false
    means_it : meaning p d w n ≡ Some (a_cell place kind access)
    decides : Some c ≡ Some (is_component kind && not (is_type p d o no.Component))

  cell_found : (w : ℕ) (n : Units) (c : Bool) → begins_on n ≡ false → (x : Option Meaning) → option_map (meant p) x ≡ meaning p d w n → by_meaning us d o x ≡ Some c → Cells w n c
  cell_found w n c h (Some (means.Cell place k a)) e i =
      record { place = place; kind = k; access = a; no_handler_name = h; means_it = sym e; decides = sym i ∙ ap Some (kind_decides k) }
  cell_found w n c h (Some (means.BuiltIn (b.Cell place k a))) e i =
      record { place = place; kind = k; access = a; no_handler_name = h; means_it = sym e; decides = sym i ∙ ap Some (kind_decides k) }
  cell_found w n c h (Some (means.BuiltIn b.Changed)) e i = none_some c i
  cell_found w n c h (Some (means.BuiltIn (b.Signal t j))) e i = none_some c i
  cell_found w n c h (Some (means.BuiltIn b.Method)) e i = none_some c i
  cell_found w n c h (Some (means.BuiltIn b.Children)) e i = none_some c i
  cell_found w n c h (Some means.Changed) e i = none_some c i
  cell_found w n c h (Some (means.Signal u row)) e i = none_some c i
  cell_found w n c h (Some (means.Function u q row)) e i = none_some c i
  cell_found w n c h (Some (means.Alias u q row)) e i = none_some c i
  cell_found w n c h None e i = none_some c i

  cell_of_name : (w : ℕ) (n : Units) (c : Bool) → is_there us d w ≡ true → by_name us d o w n ≡ Some c → Cells w n c
  cell_of_name w n c t = by_test (begins_on n) refl
    where
      by_test : (h : Bool) → begins_on n ≡ h → (if h then None else by_meaning us d o (found_at (length us + 1) us d w n)) ≡ Some c → Cells w n c
      by_test true h i = none_some c i
      by_test false h i = cell_found w n c h (found_at (length us + 1) us d w n) (found_as_meant p us stands d w t n) i

  name_decides : (roots : Roots) (w : ℕ) (n : Units) (c : Bool) → is_there us d w ≡ true → by_name us d o w n ≡ Some c → root_as p roots d o (as_value w (n ∷ [])) ≡ Some c
  name_decides roots w n c t i =
      let x = cell_of_name w n c t i in
      ap (root_by p d o) (given_means p roots d w n x.place x.kind x.access x.no_handler_name x.means_it) ∙ sym x.decides

  child_by_name : (roots : Roots) (w : ℕ) (n : Units) (c : Bool) → is_there us d w ≡ true → by_name us d o w n ≡ Some c → root_as_child p roots d o w (to_property n) ≡ Some c
  child_by_name roots w n c t i =
      let x = cell_of_name w n c t i in
      ap (root_by p d o) (path_means p roots d w n x.place x.kind x.access x.no_handler_name x.means_it) ∙ sym x.decides

  child_decides : (roots : Roots) (w : ℕ) (c : Bool) (x : Option DefaultPlace) → is_there us d w ≡ true → by_default us d o w x ≡ Some c
      → root_as_child p roots d o w (unwrap_or (option_map (default_meant p) x) no_default) ≡ Some c
  child_decides roots w c None t i = i
  child_decides roots w c (Some (place.Declared u row)) t i = none_some c i
  child_decides roots w c (Some (place.BuiltIn y (member.Property n))) t i = child_by_name roots w (name_of_place y n) c t i
  child_decides roots w c (Some (place.BuiltIn y member.Children)) t i = i
  child_decides roots w c (Some (place.BuiltIn y member.Held)) t i = i
  child_decides roots w c (Some (place.BuiltIn y member.Rows)) t i = i

  default_decides : (roots : Roots) (w : ℕ) (c : Bool) → is_there us d w ≡ true → by_default us d o w (default_at (length us + 1) us d w) ≡ Some c → root_as p roots d o (as_child w) ≡ Some c
  default_decides roots w c t i =
      ap (root_as_child p roots d o w) (sym (default_as_meant p us stands d w t)) ∙ child_decides roots w c (default_at (length us + 1) us d w) t i

  path_decides : (roots : Roots) (w : ℕ) (c : Bool) (g : Option ℕ) (n : Units) (rest : List Units) → is_there us d w ≡ true → by_path us d o w g n rest ≡ Some c
      → (g ≡ None → (object_at p d o).role ≡ as_value w (n ∷ rest)) → root_as p roots d o (object_at p d o).role ≡ Some c
  path_decides roots w c None n [] t i r = ap (root_as p roots d o) (r refl) ∙ name_decides roots w n c t i
  path_decides roots w c None n (x ∷ rest) t i r = none_some c i
  path_decides roots w c (Some k) n [] t i r = none_some c i
  path_decides roots w c (Some k) n (x ∷ rest) t i r = none_some c i

  member_decides : (roots : Roots) (w : ℕ) (c : Bool) (g : Option ℕ) (x : Member) → is_there us d w ≡ true → by_member us d o w g x ≡ Some c → SaysRole (object_at p d o).role w g x
      → root_as p roots d o (object_at p d o).role ≡ Some c
  member_decides roots w c g (m.Property q a k n at (Some v)) t i r = ap (root_as p roots d o) r ∙ name_decides roots w n c t i
  member_decides roots w c g (m.Property q a k n at None) t i r = none_some c i
  member_decides roots w c None (m.Given path value) t i r = path_decides roots w c None path.first path.rest.items t i (λ e. r)
  member_decides roots w c (Some k) (m.Given path value) t i r = path_decides roots w c (Some k) path.first path.rest.items t i (λ e. none_some k (sym e))
  member_decides roots w c g (m.Child x) t i r = ap (root_as p roots d o) r ∙ default_decides roots w c t i
  member_decides roots w c g (m.Id q n at) t i r = none_some c i
  member_decides roots w c g (m.Alias q a n at target) t i r = none_some c i
  member_decides roots w c g (m.Signal q n at names) t i r = none_some c i
  member_decides roots w c g (m.Method q f n at) t i r = none_some c i
  member_decides roots w c g (m.Group path) t i r = none_some c i

  object_decides : (roots : Roots) (rows : List UnitRow) (row : Option ℕ) (c : Bool) → ObjectSays p us d rows o row → decision us d o rows row ≡ Some c → root_as p roots d o (object_at p d o).role ≡ Some c
  object_decides roots rows None c s i = ap (root_as p roots d o) s ∙ i
  object_decides roots rows (Some k) c s i = by_there (slice_get rows k) refl i
    where
      by_there : (x : Option UnitRow) → slice_get rows k ≡ x → option_and_then (by_row us d o) x ≡ Some c → root_as p roots d o (object_at p d o).role ≡ Some c
      by_there None e i = none_some c i
      by_there (Some r) e i = member_decides roots r.row.object c r.row.group r.member (s r e).1 i (s r e).0

-- ---- all objects

pub decision_there : (us : List UnitNames) (d n : ℕ) (rows : List UnitRow) (objects : List ObjectRow) (found : List Bool) → map Some found ≡ decisions us d rows n objects → (k : ℕ) (x : ObjectRow)
    → slice_get objects k ≡ Some x → decision us d (n + k) rows x.row ≡ Some (unwrap_or (slice_get found k) false)
decision_there us d n rows [] found e k x i = none_some x i
decision_there us d n rows (y ∷ objects) [] e k x i = absurd (none_longer (ap length e))
  where
    none_longer : {l : ℕ} → 0 ≡ suc l → ⊥
    none_longer i = omega arith
decision_there us d n rows (y ∷ objects) (c ∷ found) e zero x i =
    ap (λ j. decision us d j rows x.row) (no_more n) ∙ ap (λ z. decision us d n rows (unwrap_or z x).row) (sym i) ∙ ap (λ zs. unwrap_or (slice_get zs 0) None) (sym e)
  where
    no_more : (n : ℕ) → n + 0 ≡ n
    no_more n = omega arith
decision_there us d n rows (y ∷ objects) (c ∷ found) e (suc k) x i =
    ap (λ j. decision us d j rows x.row) (one_on n k) ∙ decision_there us d (suc n) rows objects found (ap (drop 1) e) k x i
  where
    one_on : (n k : ℕ) → n + suc k ≡ suc n + k
    one_on n k = omega arith

in_list : {A : Type 0} (xs : List A) (k : ℕ) → k < length xs → (x : A) × (slice_get xs k ≡ Some x)
in_list [] k h = absurd (omega arith)
in_list (x ∷ xs) zero h = (x, refl)
in_list (x ∷ xs) (suc k) h = let less : k < length xs = omega arith in in_list xs k less

pub all_decided : (p : Program) (us : List UnitNames) (d : ℕ) (rows : List UnitRow) (objects : List ObjectRow) (found : Vec Bool Global) → Stands p us → ObjectsSay p us d rows objects
    → AreDecisions (Some found) (decisions us d rows 0 objects) → AreDecided p d (λ o. unwrap_or (slice_get found.items o) false)
all_decided p us d rows objects found stands says are roots o h =
    let x = in_list objects o (subst (λ n. o < n) (sym says.long) h) in
    object_decides p us stands d o (says.there o h) roots rows x.0.row (unwrap_or (slice_get found.items o) false) (says.says o x.0 x.1)
    (ap (λ j. decision us d j rows x.0.row) (sym (from_none o)) ∙ decision_there us d 0 rows objects found.items are o x.0 x.1)
  where
    from_none : (k : ℕ) → 0 + k ≡ k
    from_none k = omega arith
