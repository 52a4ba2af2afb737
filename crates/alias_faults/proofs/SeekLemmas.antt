-- Seeking the target of a PropertyChanges.
use Rattle.std.proofs.Common.{◌≡◌, ◌∙◌, ap, sym, refl, subst, ℕ, zero, suc, ◌+◌, ◌-◌, ◌<◌, ◌≤◌, arith, add-one, Bool, true, false, List, [], ◌∷◌, ◌++◌, length, flat_map, get_or, drop, drop-cons, Option, Some, None}
use Rattle.std.specs.Prelude.{◌||◌, if◌then◌else◌}
use Rattle.std.specs.Option.{option_map, option_and_then, is_none}
use Rattle.std.proofs.Math.ListN.{drop_of_length-le}
use Rattle.qml_base.specs.declared.load_cause.LoadCause.TheVariants as cause
use Rattle.qml_syntax.specs.Tree.{Units, name, expr}
use Rattle.qml_types.specs.declared.kind.TypeNo.TheVariants as no
use Rattle.qml_types.specs.declared.kind.TypeRef.{TypeRef}
use Rattle.qml_types.specs.declared.kind.TypeRef.TheVariants.{Builtin, Document as OfDocument}
use Rattle.program_names.specs.declared.fault.Fault.{Fault}
use Rattle.program_names.specs.Written.{WrittenObject, WrittenValue, by_stmt}
use Rattle.program_names.specs.Loaded.{Program, unit_at, type_of_object}
use Rattle.program_names.specs.Layers.{is_type}
use Rattle.program_names.specs.Components.{Roots, owner, root_of, enclosing, id_in}
use Rattle.program_names.specs.ComponentRoots.{target_in, id_seen, id_of, is_seen as is_seen_in, has_name, unless_hidden, id_outwards}
use Rattle.program_tables.specs.declared.built_in.BuiltInName.{BuiltInName}
use Rattle.program_tables.specs.declared.built_in.BuiltInName.TheVariants as b
use Rattle.program_tables.specs.declared.names.Meaning.{Meaning}
use Rattle.program_tables.specs.declared.names.Meaning.TheVariants as m
use Rattle.program_tables.specs.declared.names.UnitNames.{UnitNames}
use Rattle.program_tables.specs.Walk.{found_at}
use Rattle.program_tables.specs.Stands.{is_there, meant, Stands}
use Rattle.program_tables.proofs.MeaningLemmas.{found_as_meant}
use Rattle.alias_tables.specs.Roots.{root_at}
use Rattle.alias_tables.specs.Ids.{id_found}
use Rattle.path_ends.specs.declared.aliases.UnitIds.{UnitIds}
use Rattle.load_faults.specs.Faults.{Faults, first_from, fault_if, objects_from, place_of_object, place_of_value}
use Rattle.load_faults.specs.Aliases.{bad_targets}
use Rattle.load_faults.proofs.FirstLemmas.{first_from-append}
use Rattle.alias_faults.specs.declared.targets.TargetRow.{TargetRow}
use Rattle.alias_faults.specs.Targets.{is_seen, sees, owner_at, sought, target_seen, SaysComponents, seen_by, bad_target, bad_targets_of, name_alone, row_given, row_of_object, rows_from, target_rows, ObjectsThere}

-- ---- the search

abbrev outside : ℕ → List UnitNames → UnitIds → List (Option ℕ) → ℕ → Units → Option ℕ → Option ℕ
outside k us ids owners d word None = None
outside k us ids owners d word (Some w) = sought k us ids owners d false (root_at ids.roots.items w) word

abbrev unless : Bool → Option ℕ → Option ℕ
unless true further = None
unless false further = further

-- one component, by what is found in it, whether it hides what is around it, and what is around it
abbrev chosen : ℕ → List UnitNames → UnitIds → List (Option ℕ) → ℕ → Units → Option ℕ → Bool → Option ℕ → Option ℕ
chosen k us ids owners d word x h y = elim x [
  | Some o ↦ Some o
  | None ↦ elim h [
    | true ↦ None
    | false ↦ elim y [ None ↦ None | Some w ↦ sought k us ids owners d false (root_at ids.roots.items w) word ]
  ]
]

opened : (k : ℕ) (us : List UnitNames) (ids : UnitIds) (owners : List (Option ℕ)) (d : ℕ) (hidden : Bool) (root : ℕ) (word : Units) (x : Option ℕ) (h : Bool) (y : Option ℕ)
    → id_found ids.ids.items root word ≡ x → (hidden || sees us d root word) ≡ h → owner_at owners root ≡ y
    → sought (suc k) us ids owners d hidden root word ≡ chosen k us ids owners d word x h y
opened k us ids owners d hidden root word x h y i j e =
    ap (λ v. chosen k us ids owners d word v (hidden || sees us d root word) (owner_at owners root)) i ∙
    ap (λ v. chosen k us ids owners d word x v (owner_at owners root)) j ∙
    ap (λ v. chosen k us ids owners d word x h v) e

pub found_here : (k : ℕ) (us : List UnitNames) (ids : UnitIds) (owners : List (Option ℕ)) (d : ℕ) (hidden : Bool) (root : ℕ) (word : Units) (o : ℕ) (all : Option ℕ) → 0 < k
    → Some o ≡ id_found ids.ids.items root word → sought k us ids owners d hidden root word ≡ all → Some o ≡ all
found_here zero us ids owners d hidden root word o all h i l = absurd (omega arith)
found_here (suc k) us ids owners d hidden root word o all h i l =
    sym (opened k us ids owners d hidden root word (Some o) (hidden || sees us d root word) (owner_at owners root) (sym i) refl refl) ∙ l

pub is_hidden : (k : ℕ) (us : List UnitNames) (ids : UnitIds) (owners : List (Option ℕ)) (d : ℕ) (hidden seen : Bool) (root : ℕ) (word : Units) (all : Option ℕ) → 0 < k
    → Path (Option ℕ) None (id_found ids.ids.items root word) → seen ≡ sees us d root word → (hidden || seen) ≡ true → sought k us ids owners d hidden root word ≡ all → None ≡ all
is_hidden zero us ids owners d hidden seen root word all h i s t l = absurd (omega arith)
is_hidden (suc k) us ids owners d hidden seen root word all h i s t l =
    sym (opened k us ids owners d hidden root word None true (owner_at owners root) (sym i) (ap (λ c. hidden || c) (sym s) ∙ t) refl) ∙ l

pub ends_outside : (k : ℕ) (us : List UnitNames) (ids : UnitIds) (owners : List (Option ℕ)) (d : ℕ) (hidden seen : Bool) (root : ℕ) (word : Units) (all : Option ℕ) → 0 < k
    → Path (Option ℕ) None (id_found ids.ids.items root word) → seen ≡ sees us d root word → (hidden || seen) ≡ false → Path (Option ℕ) None (owner_at owners root)
    → sought k us ids owners d hidden root word ≡ all → None ≡ all
ends_outside zero us ids owners d hidden seen root word all h i s t o l = absurd (omega arith)
ends_outside (suc k) us ids owners d hidden seen root word all h i s t o l =
    sym (opened k us ids owners d hidden root word None false None (sym i) (ap (λ c. hidden || c) (sym s) ∙ t) (sym o)) ∙ l

one_less : (k : ℕ) → suc k - 1 ≡ k
one_less k = omega arith

pub goes_out : (k : ℕ) (us : List UnitNames) (ids : UnitIds) (owners : List (Option ℕ)) (d : ℕ) (hidden seen : Bool) (root w next : ℕ) (word : Units) (all : Option ℕ) → 0 < k
    → Path (Option ℕ) None (id_found ids.ids.items root word) → seen ≡ sees us d root word → (hidden || seen) ≡ false → Some w ≡ owner_at owners root → next ≡ root_at ids.roots.items w
    → sought k us ids owners d hidden root word ≡ all → sought (k - 1) us ids owners d false next word ≡ all
goes_out zero us ids owners d hidden seen root w next word all h i s t o n l = absurd (omega arith)
goes_out (suc k) us ids owners d hidden seen root w next word all h i s t o n l =
    ap (λ j. sought j us ids owners d false next word) (one_less k) ∙ ap (λ r. sought k us ids owners d false r word) n ∙
    sym (opened k us ids owners d hidden root word None false (Some w) (sym i) (ap (λ c. hidden || c) (sym s) ∙ t) (sym o)) ∙ l

pub ends_at_last : (k : ℕ) (us : List UnitNames) (ids : UnitIds) (owners : List (Option ℕ)) (d : ℕ) (hidden : Bool) (root : ℕ) (word : Units) (all : Option ℕ) → k ≤ 0
    → sought k us ids owners d hidden root word ≡ all → None ≡ all
ends_at_last zero us ids owners d hidden root word all h l = l
ends_at_last (suc k) us ids owners d hidden root word all h l = absurd (omega arith)

-- ---- the definition, by the words that it is made of

seen_so : (p : Program) (roots : Roots) (d o : ℕ) (n : Units) → id_seen p roots d o n ≡ id_outwards (suc (length (unit_at p d).objects)) p roots d (has_name p d o n) (root_of p roots d o) n
seen_so p roots d o n = refl

seen_built_in : (x : BuiltInName) (p : Program) → is_seen (Some (m.BuiltIn x)) ≡ is_seen_in (Some (meant p (m.BuiltIn x)))
seen_built_in (b.Cell place k a) p = refl
seen_built_in b.Changed p = refl
seen_built_in (b.Signal t i) p = refl
seen_built_in b.Method p = refl
seen_built_in b.Children p = refl

seen_meant : (p : Program) (x : Option Meaning) → is_seen x ≡ is_seen_in (option_map (meant p) x)
seen_meant p None = refl
seen_meant p (Some (m.Cell place k a)) = refl
seen_meant p (Some (m.BuiltIn x)) = seen_built_in x p
seen_meant p (Some m.Changed) = refl
seen_meant p (Some (m.Signal e row)) = refl
seen_meant p (Some (m.Function e o row)) = refl
seen_meant p (Some (m.Alias e o row)) = refl

module _ (p : Program) (roots : Roots) (us : List UnitNames) (ids : UnitIds) (owners : List (Option ℕ)) (d : ℕ) (stands : Stands p us) (says : SaysComponents p roots us ids owners d) where
  sees_alike : (o : ℕ) (n : Units) → is_there us d o ≡ true → sees us d o n ≡ has_name p d o n
  sees_alike o n t = seen_meant p (found_at (length us + 1) us d o n) ∙ ap is_seen_in (found_as_meant p us stands d o t n)

  one_out : (f root : ℕ) (n : Units) → is_there us d root ≡ true → ((r : ℕ) → is_there us d r ≡ true → sought f us ids owners d false r n ≡ id_outwards f p roots d false r n)
      → (x : Option ℕ) (h : Bool)
      → chosen f us ids owners d n x h (owner p d root) ≡ unless_hidden x h (option_and_then (λ r. id_outwards f p roots d false r n) (enclosing p roots d root))
  one_out f root n t deeper (Some o) h = refl
  one_out f root n t deeper None true = refl
  one_out f root n t deeper None false = further (owner p d root) refl
    where
      further : (y : Option ℕ) → owner p d root ≡ y
          → chosen f us ids owners d n None false y ≡ option_and_then (λ r. id_outwards f p roots d false r n) (option_map (λ w. root_of p roots d w) y)
      further None e = refl
      further (Some w) e =
          let w_there = says.around root w t e in
          ap (λ r. sought f us ids owners d false r n) (says.told_roots w w_there).0 ∙ deeper (root_of p roots d w) (says.told_roots w w_there).1

  alike : (f : ℕ) (hidden : Bool) (root : ℕ) (n : Units) → is_there us d root ≡ true → sought f us ids owners d hidden root n ≡ id_outwards f p roots d hidden root n
  alike zero hidden root n t = refl
  alike (suc f) hidden root n t =
      opened f us ids owners d hidden root n (id_in p roots d root n) (hidden || has_name p d root n) (owner p d root) (says.told_ids root t n)
      (ap (λ c. hidden || c) (sees_alike root n t)) (says.told_owners root t) ∙
      one_out f root n t (λ r i. alike f false r n i) (id_in p roots d root n) (hidden || has_name p d root n)

  seen_alike : (o : ℕ) (n : Units) → is_there us d o ≡ true → target_seen us ids owners d o n ≡ id_seen p roots d o n
  seen_alike o n t =
      ap (λ k. sought k us ids owners d (sees us d o n) (root_at ids.roots.items o) n) (add-one (length owners) ∙ ap suc says.long) ∙
      ap (λ c. sought (suc (length (unit_at p d).objects)) us ids owners d c (root_at ids.roots.items o) n) (sees_alike o n t) ∙
      ap (λ r. sought (suc (length (unit_at p d).objects)) us ids owners d (has_name p d o n) r n) (says.told_roots o t).0 ∙
      alike (suc (length (unit_at p d).objects)) (has_name p d o n) (root_of p roots d o) n (says.told_roots o t).1

  -- ---- rows

  named_alike : (o : ℕ) (v : WrittenValue) → is_there us d o ≡ true → seen_by us ids owners d o (name_alone v) ≡ id_of p roots d o v
  named_alike o (by_stmt (expr (name n at) c)) t = seen_alike o n t
  named_alike o _ t = refl

  abbrev is_built_in : TypeRef → Bool
  is_built_in (Builtin t) = true
  is_built_in (OfDocument u) = false

  abbrev told_target : ℕ → Option WrittenValue → Faults
  told_target o (Some v) = fault_if (is_none (id_of p roots d o v)) (place_of_value p d v) cause.BadTarget
  told_target o None = fault_if (is_built_in (type_of_object p d o)) (place_of_object p d o) cause.BadTarget

  abbrev told_object : ℕ → WrittenObject → Faults
  told_object o w = if is_type p d o no.PropertyChanges then told_target o (target_in w.members) else []

  no_more : (fs : Faults) → fs ++ [] ≡ fs
  no_more [] = refl
  no_more (f ∷ fs) = ap (λ gs. f ∷ gs) (no_more fs)

  given_alike : (o : ℕ) (v : Option WrittenValue) → is_there us d o ≡ true → flat_map (bad_target us ids owners d) (row_given p d o v) ≡ told_target o v
  given_alike o (Some v) t =
      no_more (fault_if (is_none (seen_by us ids owners d o (name_alone v))) (place_of_value p d v) cause.BadTarget) ∙
      ap (λ x. fault_if (is_none x) (place_of_value p d v) cause.BadTarget) (named_alike o v t)
  given_alike o None t = by_type (is_built_in (type_of_object p d o))
    where
      by_type : (c : Bool) → flat_map (bad_target us ids owners d) (if c then record { object = o; at = place_of_object p d o; name = None } ∷ [] else []) ≡ fault_if c (place_of_object p d o) cause.BadTarget
      by_type true = refl
      by_type false = refl

  object_alike : (o : ℕ) (w : WrittenObject) → is_there us d o ≡ true → flat_map (bad_target us ids owners d) (row_of_object p d o w) ≡ told_object o w
  object_alike o w t = by_type (is_type p d o no.PropertyChanges)
    where
      by_type : (c : Bool) → flat_map (bad_target us ids owners d) (if c then row_given p d o (target_in w.members) else []) ≡ (if c then told_target o (target_in w.members) else [])
      by_type true = given_alike o (target_in w.members) t
      by_type false = refl

  two : {A : Type 0} (f : A → Faults) (xs ys : List A) → flat_map f (xs ++ ys) ≡ flat_map f xs ++ flat_map f ys
  two f [] ys = refl
  two f (x ∷ xs) ys = ap (λ zs. f x ++ zs) (two f xs ys) ∙ sym (assoc (f x) (flat_map f xs) (flat_map f ys))
    where
      assoc : {B : Type 0} (a b c : List B) → (a ++ b) ++ c ≡ a ++ (b ++ c)
      assoc [] b c = refl
      assoc (y ∷ a) b c = ap (λ zs. y ∷ zs) (assoc a b c)

  from_alike : (o : ℕ) (ws : List WrittenObject) → ((k : ℕ) → k < length ws → is_there us d (o + k) ≡ true) → bad_targets_of us ids owners d (rows_from p d o ws) ≡ objects_from o ws told_object
  from_alike o [] t = refl
  from_alike o (w ∷ ws) t =
      two (bad_target us ids owners d) (row_of_object p d o w) (rows_from p d (suc o) ws) ∙
      ap (λ fs. fs ++ bad_targets_of us ids owners d (rows_from p d (suc o) ws)) (object_alike o w (ap (is_there us d) (plus_none o) ∙ t 0 (first (length ws)))) ∙
      ap (λ fs. told_object o w ++ fs) (from_alike (suc o) ws (λ k h. ap (is_there us d) (one_on o k) ∙ t (suc k) (up k (length ws) h)))
    where
      plus_none : (o : ℕ) → o ≡ o + 0
      plus_none o = omega arith

      first : (n : ℕ) → 0 < suc n
      first n = omega arith

      one_on : (o k : ℕ) → suc o + k ≡ o + suc k
      one_on o k = omega arith

      up : (k n : ℕ) → k < n → suc k < suc n
      up k n h = omega arith

  pub targets_alike : ObjectsThere p us d → bad_targets_of us ids owners d (target_rows p d) ≡ bad_targets p roots d
  targets_alike t = from_alike 0 (unit_at p d).objects (λ k h. ap (is_there us d) (from_none k) ∙ t k h)
    where
      from_none : (k : ℕ) → 0 + k ≡ k
      from_none k = omega arith

-- ---- telling them

pub one_row : (us : List UnitNames) (ids : UnitIds) (owners : List (Option ℕ)) (d : ℕ) (rows : List TargetRow) (i : ℕ) (x : TargetRow) (kept kept' all : Option Fault) → i < length rows
    → kept' ≡ first_from kept (bad_target us ids owners d (get_or rows i x)) → first_from kept (bad_targets_of us ids owners d (drop i rows)) ≡ all
    → first_from kept' (bad_targets_of us ids owners d (drop (i + 1) rows)) ≡ all
one_row us ids owners d rows i x kept kept' all h e l =
    ap (λ k. first_from kept' (bad_targets_of us ids owners d (drop k rows))) (add-one i) ∙
    ap (λ k. first_from k (bad_targets_of us ids owners d (drop (suc i) rows))) e ∙
    sym (first_from-append kept (bad_target us ids owners d (get_or rows i x)) (bad_targets_of us ids owners d (drop (suc i) rows))) ∙
    ap (λ rs. first_from kept (bad_targets_of us ids owners d rs)) (sym (drop-cons rows i x h)) ∙ l

pub all_told : (us : List UnitNames) (ids : UnitIds) (owners : List (Option ℕ)) (d : ℕ) (rows : List TargetRow) (i : ℕ) (kept all : Option Fault) → length rows ≤ i
    → first_from kept (bad_targets_of us ids owners d (drop i rows)) ≡ all → kept ≡ all
all_told us ids owners d rows i kept all past e = subst (λ some. first_from kept (bad_targets_of us ids owners d some) ≡ all) (drop_of_length-le rows past) e
