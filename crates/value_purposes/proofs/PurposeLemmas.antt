-- What values and groups are given for is what they are given for in the program.
use Rattle.std.proofs.Common.{◌≡◌, ◌∙◌, ap, sym, refl, subst, ℕ, ◌+◌, Bool, true, false, List, [], ◌∷◌, ◌++◌, length, Option, Some, None, is_some}
use Rattle.std.specs.Prelude.{◌&&◌, not, if◌then◌else◌}
use Rattle.std.specs.Option.{option_map}
use Rattle.qml_syntax.specs.Tree.{Units}
use Rattle.qml_types.specs.declared.kind.TypeNo.{TypeNo}
use Rattle.qml_types.specs.declared.kind.TypeNo.TheVariants as no
use Rattle.qml_types.specs.declared.kind.TypeRef.TheVariants.{Builtin}
use Rattle.program_names.specs.Names.{is_handler_name}
use Rattle.program_names.specs.Loaded.{Program}
use Rattle.program_names.specs.Layers.{NameMeaning, is_type, meaning}
use Rattle.program_names.specs.Components.{Roots}
use Rattle.program_names.specs.PathMeanings.{SeenObject, here, PathMeaning as AMeaning, a_property_of, an_object_of, a_handler, children_of, no_meaning, without_target, meaning_of_path}
use Rattle.program_names.specs.ComponentRoots.{target_of, meaning_given}
use Rattle.load_faults.specs.Faults.{Purpose, for_role, as_attached, for_target, by_path, is_attached as attached_in, purpose_of}
use Rattle.program_tables.specs.declared.names.Meaning.{Meaning}
use Rattle.program_tables.specs.declared.names.UnitNames.{UnitNames}
use Rattle.program_tables.specs.Walk.{found_at}
use Rattle.program_tables.specs.Stands.{is_there, meant}
use Rattle.program_tables.specs.Types.{any_of, base_in}
use Rattle.program_tables.proofs.MeaningLemmas.{found_as_meant}
use Rattle.program_tables.proofs.TypeLemmas.{types_as_meant}
use Rattle.path_ends.specs.declared.aliases.UnitEnds.{UnitEnds}
use Rattle.handler_names.specs.declared.declared.UnitHandlers.{UnitHandlers}
use Rattle.change_targets.specs.declared.walking.UnitTargets.{UnitTargets}
use Rattle.change_targets.specs.Targets.{target_at}
use Rattle.change_targets.specs.Told.{place_of, IsThere}
use Rattle.change_targets.proofs.LayerLemmas.{target_as_meant}
use Rattle.path_meanings.specs.declared.meanings.PathMeaning.{PathMeaning}
use Rattle.path_meanings.specs.declared.meanings.PathMeaning.TheVariants as p
use Rattle.path_meanings.specs.declared.reached.Reached.TheVariants as r
use Rattle.path_meanings.specs.Reached.{along}
use Rattle.path_meanings.specs.Meanings.{meant_along}
use Rattle.path_meanings.specs.Bare.{bare, is_short}
use Rattle.path_meanings.proofs.MeaningLemmas.{path_as_meant}
use Rattle.value_purposes.specs.declared.purposes.ValuePurpose.{ValuePurpose}
use Rattle.value_purposes.specs.declared.purposes.ValuePurpose.TheVariants as v
use Rattle.value_purposes.specs.Given.{is_type_in, is_alone, first_name, has_first, meant_at, only_values, meant_for, no_handler, is_change, or_change, given_at}
use Rattle.value_purposes.specs.Purposes.{is_attached, for_its_target, purpose_in_object, purpose_at}
use Rattle.value_purposes.specs.Bare.{bare_purpose, TellsPaths}

-- ---- the definitions, by the words that they are made of

abbrev own_name : Program → ℕ → ℕ → List Units → Bool
own_name q d o [] = true
own_name q d o (n ∷ rest) = is_some (meaning q d o n)

abbrev values_only : AMeaning → AMeaning
values_only (a_property_of w place k a own) = a_property_of w place k a false
values_only (an_object_of s) = an_object_of s
values_only without_target = without_target
values_only _ = no_meaning

abbrev for_seen : Program → Roots → Option SeenObject → List Units → AMeaning
for_seen q roots None path = without_target
for_seen q roots (Some s) path = values_only (meaning_of_path q roots s path)

abbrev not_handler : AMeaning → Bool
not_handler (a_handler names) = false
not_handler _ = true

abbrev changes : Program → Roots → ℕ → ℕ → List Units → Bool
changes q roots d o path = is_type q d o no.PropertyChanges && (not (own_name q d o path) && not_handler (meaning_of_path q roots (here d o) path))

given_so : (q : Program) (roots : Roots) (d o : ℕ) (path : List Units)
    → meaning_given q roots d o path ≡ elim (changes q roots d o path) [ true ↦ for_seen q roots (target_of q roots d o) path | false ↦ meaning_of_path q roots (here d o) path ]
given_so q roots d o path = refl

abbrev handler_path : List Units → Bool
handler_path (n ∷ []) = is_handler_name n
handler_path _ = false

purpose_so : (q : Program) (roots : Roots) (d o : ℕ) (path : List Units)
    → purpose_of q roots d o path ≡
    elim (is_type q d o no.ListElement) [
      | true ↦ for_role
      | false ↦ elim (attached_in path) [
        | true ↦ as_attached
        | false ↦ elim (is_type q d o no.Connections && handler_path path) [ true ↦ for_target | false ↦ by_path (meaning_given q roots d o path) ]
      ]
    ]
purpose_so q roots d o path = refl

-- ---- paths

alone : (before : List Units) (first : Units) (rest : List Units) → is_alone before rest ≡ is_short (before ++ first ∷ rest)
alone [] first [] = refl
alone [] first (n ∷ rest) = refl
alone (b ∷ []) first rest = refl
alone (b ∷ c ∷ before) first rest = refl

attached_alike : (before : List Units) (first : Units) (rest : List Units) → is_attached before first rest ≡ attached_in (before ++ first ∷ rest)
attached_alike [] first [] = refl
attached_alike [] first (n ∷ []) = refl
attached_alike [] first (n ∷ k ∷ rest) = refl
attached_alike (c ∷ []) first [] = refl
attached_alike (c ∷ []) first (n ∷ rest) = refl
attached_alike (c ∷ b ∷ []) first rest = refl
attached_alike (c ∷ b ∷ e ∷ before) first rest = refl

handler_alike : (before : List Units) (first : Units) (rest : List Units) → (is_alone before rest && is_handler_name first) ≡ handler_path (before ++ first ∷ rest)
handler_alike [] first [] = refl
handler_alike [] first (n ∷ rest) = refl
handler_alike (b ∷ []) first rest = refl
handler_alike (b ∷ c ∷ before) first rest = refl

-- ---- meanings without ways

bare_values : (x : AMeaning) → only_values (bare x) ≡ bare (values_only x)
bare_values (a_property_of w place k a own) = refl
bare_values (an_object_of s) = refl
bare_values (a_handler names) = refl
bare_values (children_of w) = refl
bare_values no_meaning = refl
bare_values without_target = refl

bare_handler : (x : AMeaning) → no_handler (bare x) ≡ not_handler x
bare_handler (a_property_of w place k a own) = refl
bare_handler (an_object_of s) = refl
bare_handler (a_handler names) = refl
bare_handler (children_of w) = refl
bare_handler no_meaning = refl
bare_handler without_target = refl

bare_choice : (c : Bool) (x y : AMeaning) → (if c then bare x else bare y) ≡ bare (elim c [ true ↦ x | false ↦ y ])
bare_choice true x y = refl
bare_choice false x y = refl

some_mapped : (q : Program) (x : Option Meaning) → is_some x ≡ is_some (option_map (meant q) x)
some_mapped q None = refl
some_mapped q (Some x) = refl

chosen : (a b c : Bool) (x : AMeaning)
    → (if a then v.Role else (if b then v.Attached else (if c then v.Target else v.Path (bare x)))) ≡
    bare_purpose (elim a [ true ↦ for_role | false ↦ elim b [ true ↦ as_attached | false ↦ elim c [ true ↦ for_target | false ↦ by_path x ] ] ])
chosen true b c x = refl
chosen false true c x = refl
chosen false false true x = refl
chosen false false false x = refl

module _ (q : Program) (roots : Roots) (us : List UnitNames) (hs : List UnitHandlers) (known : List UnitEnds) (ts : List UnitTargets) (t : TellsPaths q roots us hs known ts) where
  pub meant_alike : (s : SeenObject) (before : List Units) (first : Units) (rest : List Units) → is_there us s.document s.object ≡ true
      → meant_at us hs known s.document s.object before first rest ≡ bare (meaning_of_path q roots s (before ++ first ∷ rest))
  meant_alike s before first rest h =
      ap (λ c. meant_along us hs known c (along us known (r.Object s.document s.object) before) first rest) (alone before first rest) ∙
      path_as_meant q roots us t.ids t.aliases known t.tells t.knows hs t.handlers s before first rest h

  type_alike : (d o : ℕ) (type_no : TypeNo) → is_there us d o ≡ true → is_type_in us d o type_no ≡ is_type q d o type_no
  type_alike d o type_no h = types_as_meant q us t.tells.stands d o h (Builtin type_no)

  has_alike : (d o : ℕ) (name : Units) → is_there us d o ≡ true → is_some (found_at (length us + 1) us d o name) ≡ is_some (meaning q d o name)
  has_alike d o name h = some_mapped q (found_at (length us + 1) us d o name) ∙ ap is_some (found_as_meant q us t.tells.stands d o h name)

  first_alike : (d o : ℕ) (before : List Units) (first : Units) (rest : List Units) → is_there us d o ≡ true → has_first us d o before first ≡ own_name q d o (before ++ first ∷ rest)
  first_alike d o [] first rest h = has_alike d o first h
  first_alike d o (b ∷ before) first rest h = has_alike d o b h

  for_alike : (before : List Units) (first : Units) (rest : List Units) (x : Option SeenObject) (y : Option (ℕ × ℕ)) → y ≡ option_map place_of x → IsThere us y
      → meant_for us hs known y before first rest ≡ bare (for_seen q roots x (before ++ first ∷ rest))
  for_alike before first rest None y e h = ap (λ z. meant_for us hs known z before first rest) e
  for_alike before first rest (Some s) y e h =
      ap (λ z. meant_for us hs known z before first rest) e ∙
      ap only_values (meant_alike s before first rest (h s.document s.object e)) ∙ bare_values (meaning_of_path q roots s (before ++ first ∷ rest))

  change_alike : (d o : ℕ) (before : List Units) (first : Units) (rest : List Units) → is_there us d o ≡ true
      → is_change us d o before first (bare (meaning_of_path q roots (here d o) (before ++ first ∷ rest))) ≡ changes q roots d o (before ++ first ∷ rest)
  change_alike d o before first rest h =
      let m = meaning_of_path q roots (here d o) (before ++ first ∷ rest) in
      ap (λ c. c && (not (has_first us d o before first) && no_handler (bare m))) (type_alike d o no.PropertyChanges h) ∙
      ap (λ c. is_type q d o no.PropertyChanges && (not c && no_handler (bare m))) (first_alike d o before first rest h) ∙
      ap (λ c. is_type q d o no.PropertyChanges && (not (own_name q d o (before ++ first ∷ rest)) && c)) (bare_handler m)

  pub given_as_meant : (d o : ℕ) → is_there us d o ≡ true → (before : List Units) (first : Units) (rest : List Units)
      → given_at us hs known ts d o before first rest ≡ bare (meaning_given q roots d o (before ++ first ∷ rest))
  given_as_meant d o h before first rest =
      let path : List Units = before ++ first ∷ rest in
      let m = meaning_of_path q roots (here d o) path in
      let target = target_as_meant q roots us ts t.tells.stands t.targets d o h in
      let own : meant_at us hs known d o before first rest ≡ bare m = meant_alike (here d o) before first rest h in
      ap (or_change us hs known ts d o before first rest) own ∙
      ap (λ c. if c then meant_for us hs known (target_at (length us + 1) us ts d o) before first rest else bare m) (change_alike d o before first rest h) ∙
      ap (λ x. if changes q roots d o path then x else bare m)
      (for_alike before first rest (target_of q roots d o) (target_at (length us + 1) us ts d o) target.0 target.1) ∙
      bare_choice (changes q roots d o path) (for_seen q roots (target_of q roots d o) path) m ∙
      ap bare (sym (given_so q roots d o path))

  pub purpose_as_meant : (d o : ℕ) → is_there us d o ≡ true → (before : List Units) (first : Units) (rest : List Units)
      → purpose_at us hs known ts d o before first rest ≡ bare_purpose (purpose_of q roots d o (before ++ first ∷ rest))
  purpose_as_meant d o h before first rest =
      let path : List Units = before ++ first ∷ rest in
      let x = meaning_given q roots d o path in
      let rows = is_type q d o no.ListElement in
      ap (λ c. if c then v.Role else purpose_in_object us hs known ts d o before first rest) (type_alike d o no.ListElement h) ∙
      ap (λ c. if rows then v.Role else (if c then v.Attached else (if for_its_target us d o before first rest then v.Target else v.Path (given_at us hs known ts d o before first rest))))
      (attached_alike before first rest) ∙
      ap (λ c. if rows then v.Role else (if attached_in path then v.Attached else (if c && (is_alone before rest && is_handler_name first) then v.Target else v.Path (given_at us hs known ts d o before first rest))))
      (type_alike d o no.Connections h) ∙
      ap (λ c. if rows then v.Role else (if attached_in path then v.Attached else (if is_type q d o no.Connections && c then v.Target else v.Path (given_at us hs known ts d o before first rest))))
      (handler_alike before first rest) ∙
      ap (λ y. if rows then v.Role else (if attached_in path then v.Attached else (if is_type q d o no.Connections && handler_path path then v.Target else v.Path y)))
      (given_as_meant d o h before first rest) ∙
      chosen rows (attached_in path) (is_type q d o no.Connections && handler_path path) x ∙
      ap bare_purpose (sym (purpose_so q roots d o path))
