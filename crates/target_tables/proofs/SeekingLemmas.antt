-- What is sought in the components outwards from an object that has members is what the program's definition finds.
use Rattle.std.proofs.Common.{◌≡◌, ◌∙◌, ap, sym, refl, ℕ, zero, suc, ◌+◌, add-one, Bool, true, false, List, length, Option, Some, None, is_some}
use Rattle.std.specs.Prelude.{◌||◌}
use Rattle.std.specs.Option.{option_map, option_and_then}
use Rattle.std.proofs.lemmas.Bool.{false≢true}
use Rattle.qml_syntax.specs.Tree.{Units, name, expr}
use Rattle.program_names.specs.Written.{WrittenValue, by_stmt}
use Rattle.program_names.specs.Loaded.{Program, unit_at}
use Rattle.program_names.specs.Components.{Roots, owner, root_of, enclosing, id_in}
use Rattle.program_names.specs.ComponentRoots.{id_seen, id_of, is_seen as is_seen_in, has_name, unless_hidden, id_outwards}
use Rattle.program_tables.specs.declared.built_in.BuiltInName.TheVariants as b
use Rattle.program_tables.specs.declared.names.Meaning.{Meaning}
use Rattle.program_tables.specs.declared.names.Meaning.TheVariants as m
use Rattle.program_tables.specs.declared.names.UnitNames.{UnitNames}
use Rattle.program_tables.specs.Walk.{found_at}
use Rattle.program_tables.specs.Stands.{is_there, meant, Stands}
use Rattle.program_tables.proofs.MeaningLemmas.{found_as_meant}
use Rattle.alias_tables.specs.Roots.{root_at}
use Rattle.alias_tables.specs.Ids.{id_found}
use Rattle.path_ends.specs.declared.aliases.UnitIds.{UnitIds}
use Rattle.alias_faults.specs.Targets.{is_seen, sees, owner_at, sought, target_seen, seen_by, name_alone}
use Rattle.target_tables.specs.Seen.{HasRow, SaysObject, SaysObjects}

-- one component, by what is found in it, whether it hides what is around it, and what is around it
abbrev chosen : ℕ → List UnitNames → UnitIds → List (Option ℕ) → ℕ → Units → Option ℕ → Bool → Option ℕ → Option ℕ
chosen k us ids owners d word x h y = elim x [
  | Some o ↦ Some o
  | None ↦ elim h [
    | true ↦ None
    | false ↦ elim y [ None ↦ None | Some w ↦ sought k us ids owners d false (root_at ids.roots.items w) word ]
  ]
]

opened : (k : ℕ) (us : List UnitNames) (ids : UnitIds) (owners : List (Option ℕ)) (d : ℕ) (hidden : Bool) (root : ℕ) (word : Units)
    → sought (suc k) us ids owners d hidden root word ≡ chosen k us ids owners d word (id_found ids.ids.items root word) (hidden || sees us d root word) (owner_at owners root)
opened k us ids owners d hidden root word = refl

seen_so : (p : Program) (roots : Roots) (d o : ℕ) (n : Units) → id_seen p roots d o n ≡ id_outwards (suc (length (unit_at p d).objects)) p roots d (has_name p d o n) (root_of p roots d o) n
seen_so p roots d o n = refl

seen_meant : (p : Program) (x : Option Meaning) → is_seen x ≡ is_seen_in (option_map (meant p) x)
seen_meant p None = refl
seen_meant p (Some (m.Cell place k a)) = refl
seen_meant p (Some (m.BuiltIn (b.Cell place k a))) = refl
seen_meant p (Some (m.BuiltIn b.Changed)) = refl
seen_meant p (Some (m.BuiltIn (b.Signal t i))) = refl
seen_meant p (Some (m.BuiltIn b.Method)) = refl
seen_meant p (Some (m.BuiltIn b.Children)) = refl
seen_meant p (Some m.Changed) = refl
seen_meant p (Some (m.Signal e row)) = refl
seen_meant p (Some (m.Function e o row)) = refl
seen_meant p (Some (m.Alias e o row)) = refl

none_some : {X : Type 0} (x : ℕ) → Path (Option ℕ) None (Some x) → X
none_some x e = absurd (false≢true (ap is_some e))

module _ (p : Program) (roots : Roots) (us : List UnitNames) (ids : UnitIds) (owners : List (Option ℕ)) (d : ℕ) (stands : Stands p us) (says : SaysObjects p roots us ids owners d) where
  abbrev R : ℕ → ℕ
  R o = root_at ids.roots.items o

  sees_alike : (o : ℕ) (n : Units) → is_there us d o ≡ true → sees us d o n ≡ has_name p d o n
  sees_alike o n t = seen_meant p (found_at (length us + 1) us d o n) ∙ ap is_seen_in (found_as_meant p us stands d o t n)

  abbrev Alike : ℕ → Type 0
  Alike f = (hidden : Bool) (o : ℕ) (n : Units) → HasRow p d o → sought f us ids owners d hidden (R o) n ≡ id_outwards f p roots d hidden (root_of p roots d o) n

  one_out : (f root : ℕ) (n : Units) → Alike f → ((w : ℕ) → owner p d root ≡ Some w → HasRow p d w) → (x : Option ℕ) (h : Bool)
      → chosen f us ids owners d n x h (owner p d root) ≡ unless_hidden x h (option_and_then (λ r. id_outwards f p roots d false r n) (enclosing p roots d root))
  one_out f root n deeper around (Some o) h = refl
  one_out f root n deeper around None true = refl
  one_out f root n deeper around None false = further (owner p d root) refl
    where
      further : (y : Option ℕ) → owner p d root ≡ y
          → chosen f us ids owners d n None false y ≡ option_and_then (λ r. id_outwards f p roots d false r n) (option_map (λ w. root_of p roots d w) y)
      further None e = refl
      further (Some w) e = deeper false w n (around w e)

  alike : (f : ℕ) → Alike f
  alike zero hidden o n h = refl
  alike (suc f) hidden o n h =
      let root = root_of p roots d o in
      let x : SaysObject p roots us ids owners d o = says.each o h in
      let found = id_in p roots d root n in
      opened f us ids owners d hidden (R o) n ∙
      ap (λ y. chosen f us ids owners d n y (hidden || sees us d (R o) n) (owner_at owners (R o))) (x.found n) ∙
      ap (λ r. chosen f us ids owners d n found (hidden || sees us d r n) (owner_at owners r)) x.root ∙
      ap (λ c. chosen f us ids owners d n found (hidden || c) (owner_at owners root)) (sees_alike root n x.root_there) ∙
      ap (λ y. chosen f us ids owners d n found (hidden || has_name p d root n) y) x.around ∙
      one_out f root n (alike f) x.around_there found (hidden || has_name p d root n)

  seen_alike : (o : ℕ) (n : Units) → HasRow p d o → target_seen us ids owners d o n ≡ id_seen p roots d o n
  seen_alike o n h =
      let x : SaysObject p roots us ids owners d o = says.each o h in
      ap (λ k. sought k us ids owners d (sees us d o n) (R o) n) (add-one (length owners) ∙ ap suc x.long) ∙
      ap (λ c. sought (suc (length (unit_at p d).objects)) us ids owners d c (R o) n) (sees_alike o n x.there) ∙
      alike (suc (length (unit_at p d).objects)) (has_name p d o n) o n h

  pub named_alike : (o : ℕ) (v : WrittenValue) → HasRow p d o → seen_by us ids owners d o (name_alone v) ≡ id_of p roots d o v
  named_alike o (by_stmt (expr (name n at) c)) h = seen_alike o n h
  named_alike o _ h = refl

  -- ---- what is found is there

  abbrev FoundThere : ℕ → Type 0
  FoundThere f = (hidden : Bool) (o : ℕ) (n : Units) → HasRow p d o → (t : ℕ) → sought f us ids owners d hidden (R o) n ≡ Some t → is_there us d t ≡ true

  one_there : (f root : ℕ) (n : Units) → FoundThere f → ((w : ℕ) → owner_at owners root ≡ Some w → HasRow p d w) → (x : Option ℕ) → ((t : ℕ) → x ≡ Some t → is_there us d t ≡ true) → (h : Bool)
      → (t : ℕ) → chosen f us ids owners d n x h (owner_at owners root) ≡ Some t → is_there us d t ≡ true
  one_there f root n deeper around (Some o) g h t e = g t e
  one_there f root n deeper around None g true t e = none_some t e
  one_there f root n deeper around None g false t e = further (owner_at owners root) refl e
    where
      further : (y : Option ℕ) → owner_at owners root ≡ y → chosen f us ids owners d n None false y ≡ Some t → is_there us d t ≡ true
      further None i j = none_some t j
      further (Some w) i j = deeper false w n (around w i) t j

  found_there : (f : ℕ) → FoundThere f
  found_there zero hidden o n h t e = none_some t e
  found_there (suc f) hidden o n h t e =
      let x : SaysObject p roots us ids owners d o = says.each o h in
      one_there f (R o) n (found_there f) (λ w i. x.around_there w (sym x.around ∙ ap (owner_at owners) (sym x.root) ∙ i)) (id_found ids.ids.items (R o) n) (λ k i. x.found_there n k i)
      (hidden || sees us d (R o) n) t e

  pub named_there : (o : ℕ) (n : Option Units) → HasRow p d o → (t : ℕ) → seen_by us ids owners d o n ≡ Some t → is_there us d t ≡ true
  named_there o None h t e = none_some t e
  named_there o (Some n) h t e = found_there (length owners + 1) (sees us d o n) o n h t e
