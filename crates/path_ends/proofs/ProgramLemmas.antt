-- The ends that are known are those of the program.
use Rattle.std.proofs.Common.{◌≡◌, ◌∙◌, ap, sym, refl, subst, inl, inr, ℕ, zero, suc, ◌+◌, ◌*◌, ◌<◌, ◌≤◌, arith, Bool, true, false, List, [], ◌∷◌, length, Option, Some, None, is_some}
use Rattle.std.specs.Prelude.{◌&&◌, nat_lt, ◌⊎◌}
use Rattle.std.specs.Option.{option_map}
use Rattle.std.specs.List.{sum_by}
use Rattle.std.proofs.lemmas.Bool.{false≢true}
use Rattle.std.proofs.lemmas.Bool.Decides.{nat_tests}
use Rattle.qml_syntax.specs.Tree.{Units}
use Rattle.qml_types.specs.declared.kind.PropKind.{PropKind}
use Rattle.qml_types.specs.declared.kind.Access.{Access}
use Rattle.program_names.specs.Loaded.{Program}
use Rattle.program_names.specs.Layers.{meaning}
use Rattle.program_names.specs.Components.{Roots}
use Rattle.program_names.specs.PathMeanings.{Way, SeenObject, way_to, here, PathEnd, at_cell, at_object, at_nothing, in_circle, end_of, end_of_alias, Follow, cell_end, go_on, end_from_id, end_of_target, end_by_meaning, end_within, steps_enough, holder_in, aliases_of_unit}
use Rattle.program_tables.specs.declared.built_in.BuiltInName.{BuiltInName}
use Rattle.program_tables.specs.declared.built_in.BuiltInName.TheVariants as b
use Rattle.program_tables.specs.declared.names.Meaning.{Meaning}
use Rattle.program_tables.specs.declared.names.Meaning.TheVariants as m
use Rattle.program_tables.specs.declared.names.UnitNames.{UnitNames}
use Rattle.program_tables.specs.BuiltIn.{built_in_meaning}
use Rattle.program_tables.specs.Stands.{is_there, member_at, target_in, meant}
use Rattle.program_tables.proofs.MeaningLemmas.{found_as_meant}
use Rattle.path_ends.specs.declared.aliases.Alias.{Alias}
use Rattle.path_ends.specs.declared.aliases.UnitAliases.{UnitAliases}
use Rattle.path_ends.specs.declared.aliases.UnitIds.{UnitIds}
use Rattle.path_ends.specs.declared.aliases.UnitEnds.{UnitEnds}
use Rattle.path_ends.specs.Said.{alias_in, target_of, count_of, known_end, rank_in, id_seen}
use Rattle.path_ends.specs.Ends.{end_through, found, end_built_in, end_by, followed, walked, end_from, is_lower, one_falls, falls, falls_from}
use Rattle.path_ends.specs.Known.{IsThere, is_circle, KnowsAlias, KnowsAll, SaysAlias, Tells}
use Rattle.path_ends.proofs.FoundLemmas.{Declares, alias_declared}
use Rattle.path_ends.proofs.ThroughLemmas.{FitsAll, AllFit, path_through, falls_through, there_through}

-- ---- the definition, by the words that it is made of

end_so : (p : Program) (roots : Roots) (s : SeenObject) (path : List Units) → end_of p roots s path ≡ end_within (steps_enough p path) p roots s path
end_so p roots s path = refl

-- ---- ends that stay

stays_nothing : (us : List UnitNames) (known : List UnitEnds) (path : List Units) → walked us known at_nothing path ≡ at_nothing
stays_nothing us known [] = refl
stays_nothing us known (n ∷ rest) = stays_nothing us known rest

stays_circle : (us : List UnitNames) (known : List UnitEnds) (path : List Units) → walked us known in_circle path ≡ in_circle
stays_circle us known [] = refl
stays_circle us known (n ∷ rest) = stays_circle us known rest

at_a_cell : (us : List UnitNames) (known : List UnitEnds) (s : SeenObject) (place : ℕ) (k : PropKind) (a : Access) (rest : List Units)
    → cell_end s place k a rest ≡ walked us known (at_cell (way_to s) place k a) rest
at_a_cell us known s place k a [] = refl
at_a_cell us known s place k a (n ∷ rest) = sym (stays_nothing us known rest)

-- ---- an alias that is found

-- all that is told of it: it is kept, and known; its target is the program's
record Found (p : Program) (us : List UnitNames) (ids : List UnitIds) (aliases : List UnitAliases) (known : List UnitEnds) (e o row : ℕ) : Type 0 where
  alias : Alias
  target : target_of alias ≡ target_in (member_at p e row)
  object : alias.object ≡ o
  there : is_there us e o ≡ true
  knows : KnowsAlias us ids known (count_of aliases) e row alias

module _ (p : Program) (roots : Roots) (us : List UnitNames) (ids : List UnitIds) (aliases : List UnitAliases) (known : List UnitEnds)
    (tells : Tells p roots us ids aliases) (knows : KnowsAll us ids aliases known) where
  abbrev E : ℕ → Follow
  E f s path = end_within f p roots s path

  abbrev W : PathEnd → List Units → PathEnd
  W x path = walked us known x path

  alias_found : (s : SeenObject) (name : Units) (e o row : ℕ) → found us s name ≡ Some (m.Alias e o row) → Found p us ids aliases known e o row
  alias_found s name e o row i =
      let d : Declares us e o row = alias_declared us (length us + 1) s.document s.object e o row name i in
      let a : SaysAlias p aliases e o row = tells.told_aliases e o d.entry d.name row d.object d.alias in
      record { alias = a.alias; target = a.target; object = a.object; there = ap is_some d.object; knows = knows e row a.alias a.kept }

  all_fit : AllFit us known
  all_fit s name = by_found (found us s name) refl
    where
      by_found : (x : Option Meaning) → found us s name ≡ x → FitsAll known x
      by_found None i = tt
      by_found (Some (m.Cell place k a)) i = tt
      by_found (Some (m.BuiltIn x)) i = tt
      by_found (Some m.Changed) i = tt
      by_found (Some (m.Signal e row)) i = tt
      by_found (Some (m.Function e o row)) i = tt
      by_found (Some (m.Alias e o row)) i = (alias_found s name e o row i).knows.fits

  -- ---- with any number of steps: the end that is known, or a circle

  abbrev Near : PathEnd → PathEnd → Type 0
  Near x y = (x ≡ in_circle) ⊎ (x ≡ y)

  abbrev NearAt : ℕ → Type 0
  NearAt f = (s : SeenObject) (path : List Units) → is_there us s.document s.object ≡ true → Near (E f s path) (W (at_object s) path)

  near_on : (f : ℕ) → NearAt f → (x : PathEnd) (rest : List Units) → IsThere us x → Near (go_on (E f) x rest) (W x rest)
  near_on f h x [] t = inr refl
  near_on f h (at_object s) (n ∷ rest) t = h s (n ∷ rest) t
  near_on f h (at_cell w c k a) (n ∷ rest) t = inr (sym (stays_nothing us known rest))
  near_on f h at_nothing (n ∷ rest) t = inr (sym (stays_nothing us known rest))
  near_on f h in_circle (n ∷ rest) t = inl refl

  circle_on : (f : ℕ) (rest : List Units) → go_on (E f) in_circle rest ≡ in_circle
  circle_on f [] = refl
  circle_on f (n ∷ rest) = refl

  near_then : (f : ℕ) → NearAt f → (x y : PathEnd) (rest : List Units) → IsThere us y → Near x y → Near (go_on (E f) x rest) (W y rest)
  near_then f h x y rest t (inl i) = inl (ap (λ z. go_on (E f) z rest) i ∙ circle_on f rest)
  near_then f h x y rest t (inr i) = subst (λ z. Near (go_on (E f) z rest) (W y rest)) (sym i) (near_on f h y rest t)

  near_id : (f : ℕ) → NearAt f → (g : Option Way) (e : ℕ) (more : List Units) (x : Option ℕ) → ((t : ℕ) → x ≡ Some t → is_there us e t ≡ true)
      → Near (end_from_id (E f) g e x more) (end_through g e (end_from us known e x more))
  near_id f h g e more None t = inr refl
  near_id f h g e more (Some o) t =
      subst (Near (E f (record { holder = g; document = e; object = o }) more)) (path_through us known all_fit g e (at_object (here e o)) more refl)
      (h (record { holder = g; document = e; object = o }) more (t o refl))

  -- the target of an alias by its first name and the others
  target_parts : (f : ℕ) (g : Option Way) (e o row : ℕ) (a : Found p us ids aliases known e o row)
      → end_of_target (E f) p roots g e o (target_in (member_at p e row)) ≡ end_from_id (E f) g e (id_seen ids e o a.alias.first) a.alias.rest.items
  target_parts f g e o row a =
      ap (end_of_target (E f) p roots g e o) (sym a.target) ∙
      ap (λ x. end_from_id (E f) g e x a.alias.rest.items) (sym (tells.told_ids e o a.alias.first a.there).0)

  known_parts : (e o row : ℕ) (a : Found p us ids aliases known e o row) → known_end known e row ≡ end_from us known e (id_seen ids e o a.alias.first) a.alias.rest.items
  known_parts e o row a = a.knows.same ∙ ap (λ j. end_from us known e (id_seen ids e j a.alias.first) a.alias.rest.items) a.object

  near_target : (f : ℕ) → NearAt f → (g : Option Way) (e o row : ℕ) (a : Found p us ids aliases known e o row)
      → Near (end_of_target (E f) p roots g e o (target_in (member_at p e row))) (end_through g e (known_end known e row))
  near_target f h g e o row a =
      subst (λ y. Near (end_of_target (E f) p roots g e o (target_in (member_at p e row))) (end_through g e y)) (sym (known_parts e o row a))
      (subst (λ x. Near x (end_through g e (end_from us known e (id_seen ids e o a.alias.first) a.alias.rest.items))) (sym (target_parts f g e o row a))
      (near_id f h g e a.alias.rest.items (id_seen ids e o a.alias.first) (λ t i. (tells.told_ids e o a.alias.first a.there).1 t i)))

  near_built_in : (f : ℕ) (s : SeenObject) (rest : List Units) (x : BuiltInName)
      → Near (end_by_meaning (E f) p roots s rest (Some (built_in_meaning x))) (W (end_built_in s x) rest)
  near_built_in f s rest (b.Cell place k a) = inr (at_a_cell us known s place k a rest)
  near_built_in f s rest b.Changed = inr (sym (stays_nothing us known rest))
  near_built_in f s rest (b.Signal t i) = inr (sym (stays_nothing us known rest))
  near_built_in f s rest b.Method = inr (sym (stays_nothing us known rest))
  near_built_in f s rest b.Children = inr (sym (stays_nothing us known rest))

  near_found : (f : ℕ) → NearAt f → (s : SeenObject) (name : Units) (rest : List Units) (x : Option Meaning) → found us s name ≡ x
      → Near (end_by_meaning (E f) p roots s rest (option_map (meant p) x)) (W (end_by known s x) rest)
  near_found f h s name rest None i = inr (sym (stays_nothing us known rest))
  near_found f h s name rest (Some (m.Cell place k a)) i = inr (at_a_cell us known s place k a rest)
  near_found f h s name rest (Some (m.BuiltIn x)) i = near_built_in f s rest x
  near_found f h s name rest (Some m.Changed) i = inr (sym (stays_nothing us known rest))
  near_found f h s name rest (Some (m.Signal e row)) i = inr (sym (stays_nothing us known rest))
  near_found f h s name rest (Some (m.Function e o row)) i = inr (sym (stays_nothing us known rest))
  near_found f h s name rest (Some (m.Alias e o row)) i =
      let a = alias_found s name e o row i in
      near_then f h (end_of_target (E f) p roots (holder_in s e) e o (target_in (member_at p e row))) (end_through (holder_in s e) e (known_end known e row)) rest
      (there_through us (holder_in s e) e (known_end known e row) a.knows.there)
      (near_target f h (holder_in s e) e o row a)

  meant_here : (s : SeenObject) (name : Units) → is_there us s.document s.object ≡ true → meaning p s.document s.object name ≡ option_map (meant p) (found us s name)
  meant_here s name t = sym (found_as_meant p us tells.stands s.document s.object t name)

  near : (f : ℕ) → NearAt f
  near zero s path t = inl refl
  near (suc f) s [] t = inr refl
  near (suc f) s (name ∷ rest) t =
      subst (λ x. Near (end_by_meaning (E f) p roots s rest x) (W (at_object s) (name ∷ rest))) (sym (meant_here s name t))
      (near_found f (near f) s name rest (found us s name) refl)

  -- ---- with as many steps as ranks say: the end that is known

  circle_stays : (x : PathEnd) (path : List Units) → is_circle (W x path) ≡ false → is_circle x ≡ false
  circle_stays (at_cell w c k a) path i = refl
  circle_stays (at_object s) path i = refl
  circle_stays at_nothing path i = refl
  circle_stays in_circle path i = sym (ap is_circle (stays_circle us known path)) ∙ i

  circle_through : (g : Option Way) (e : ℕ) (x : PathEnd) → is_circle (end_through g e x) ≡ is_circle x
  circle_through g e (at_cell w c k a) = refl
  circle_through g e (at_object s) = refl
  circle_through g e at_nothing = refl
  circle_through g e in_circle = refl

  abbrev SameAt : ℕ → Type 0
  SameAt f = (r : ℕ) (s : SeenObject) (path : List Units) → is_there us s.document s.object ≡ true → is_circle (W (at_object s) path) ≡ false
      → falls us known r (at_object s) path ≡ true → length path + 4 * r < f → E f s path ≡ W (at_object s) path

  same_on : (f : ℕ) → SameAt f → (r : ℕ) (x : PathEnd) (rest : List Units) → IsThere us x → is_circle (W x rest) ≡ false → falls us known r x rest ≡ true
      → length rest + 4 * r < f → go_on (E f) x rest ≡ W x rest
  same_on f h r x [] t c l n = refl
  same_on f h r (at_object s) (m ∷ rest) t c l n = h r s (m ∷ rest) t c l n
  same_on f h r (at_cell w e k a) (m ∷ rest) t c l n = sym (stays_nothing us known rest)
  same_on f h r at_nothing (m ∷ rest) t c l n = sym (stays_nothing us known rest)
  same_on f h r in_circle (m ∷ rest) t c l n = sym (stays_circle us known rest)

  same_id : (f : ℕ) → SameAt f → (r : ℕ) (g : Option Way) (e : ℕ) (more : List Units) (x : Option ℕ) → ((t : ℕ) → x ≡ Some t → is_there us e t ≡ true)
      → is_circle (end_from us known e x more) ≡ false → falls_from us known r e x more ≡ true → length more + 4 * r < f
      → end_from_id (E f) g e x more ≡ end_through g e (end_from us known e x more)
  same_id f h r g e more None t c l n = refl
  same_id f h r g e more (Some o) t c l n =
      h r (record { holder = g; document = e; object = o }) more (t o refl)
      (ap is_circle (path_through us known all_fit g e (at_object (here e o)) more refl) ∙ circle_through g e (W (at_object (here e o)) more) ∙ c)
      (falls_through us known all_fit r g e (at_object (here e o)) more refl ∙ l) n ∙
      path_through us known all_fit g e (at_object (here e o)) more refl

  same_target : (f : ℕ) → SameAt f → (g : Option Way) (e o row : ℕ) (a : Found p us ids aliases known e o row) → is_circle (known_end known e row) ≡ false
      → length a.alias.rest.items + 4 * rank_in known e row < f
      → end_of_target (E f) p roots g e o (target_in (member_at p e row)) ≡ end_through g e (known_end known e row)
  same_target f h g e o row a c n =
      target_parts f g e o row a ∙
      same_id f h (rank_in known e row) g e a.alias.rest.items (id_seen ids e o a.alias.first) (λ t i. (tells.told_ids e o a.alias.first a.there).1 t i)
      (ap is_circle (sym (known_parts e o row a)) ∙ c)
      (ap (λ j. falls_from us known (rank_in known e row) e (id_seen ids e j a.alias.first) a.alias.rest.items) (sym a.object) ∙ a.knows.falls c) n ∙
      ap (end_through g e) (sym (known_parts e o row a))

  same_built_in : (f : ℕ) (s : SeenObject) (rest : List Units) (x : BuiltInName)
      → end_by_meaning (E f) p roots s rest (Some (built_in_meaning x)) ≡ W (end_built_in s x) rest
  same_built_in f s rest (b.Cell place k a) = at_a_cell us known s place k a rest
  same_built_in f s rest b.Changed = sym (stays_nothing us known rest)
  same_built_in f s rest (b.Signal t i) = sym (stays_nothing us known rest)
  same_built_in f s rest b.Method = sym (stays_nothing us known rest)
  same_built_in f s rest b.Children = sym (stays_nothing us known rest)

  both_true : (a c : Bool) → (a && c) ≡ true → (a ≡ true) × (c ≡ true)
  both_true true c i = (refl, i)
  both_true false c i = absurd (false≢true i)

  lower : (a c : ℕ) → nat_lt a c ≡ true → a < c
  lower a c i = grind (arith, nat_tests)

  enough : (k r f l n : ℕ) → k < r → l ≤ 3 → suc n + 4 * r < suc f → l + 4 * k < f
  enough k r f l n h g i = omega arith

  less : (r f n : ℕ) → suc n + 4 * r < suc f → n + 4 * r < f
  less r f n i = omega arith

  same_found : (f : ℕ) → SameAt f → (r : ℕ) (s : SeenObject) (name : Units) (rest : List Units) (x : Option Meaning) → found us s name ≡ x
      → is_circle (W (end_by known s x) rest) ≡ false → is_lower known r x ≡ true → falls us known r (end_by known s x) rest ≡ true → suc (length rest) + 4 * r < suc f
      → end_by_meaning (E f) p roots s rest (option_map (meant p) x) ≡ W (end_by known s x) rest
  same_found f h r s name rest None i c l k n = sym (stays_nothing us known rest)
  same_found f h r s name rest (Some (m.Cell place q a)) i c l k n = at_a_cell us known s place q a rest
  same_found f h r s name rest (Some (m.BuiltIn x)) i c l k n = same_built_in f s rest x
  same_found f h r s name rest (Some m.Changed) i c l k n = sym (stays_nothing us known rest)
  same_found f h r s name rest (Some (m.Signal e row)) i c l k n = sym (stays_nothing us known rest)
  same_found f h r s name rest (Some (m.Function e o row)) i c l k n = sym (stays_nothing us known rest)
  same_found f h r s name rest (Some (m.Alias e o row)) i c l k n =
      let a = alias_found s name e o row i in
      let open_end : is_circle (known_end known e row) ≡ false =
      sym (circle_through (holder_in s e) e (known_end known e row)) ∙ circle_stays (end_through (holder_in s e) e (known_end known e row)) rest c in
      ap (λ y. go_on (E f) y rest)
      (same_target f h (holder_in s e) e o row a open_end
      (enough (rank_in known e row) r f (length a.alias.rest.items) (length rest) (lower (rank_in known e row) r l) a.knows.short n)) ∙
      same_on f h r (end_through (holder_in s e) e (known_end known e row)) rest
      (there_through us (holder_in s e) e (known_end known e row) a.knows.there) c k (less r f (length rest) n)

  same : (f : ℕ) → SameAt f
  same zero r s path t c l n = absurd (none_less (length path + 4 * r) n)
    where
      none_less : (a : ℕ) → a < 0 → ⊥
      none_less a i = omega arith
  same (suc f) r s [] t c l n = refl
  same (suc f) r s (name ∷ rest) t c l n =
      let both = both_true (is_lower known r (found us s name)) (falls us known r (followed us known (at_object s) name) rest) l in
      ap (end_by_meaning (E f) p roots s rest) (meant_here s name t) ∙
      same_found f (same f) r s name rest (found us s name) refl c both.0 both.1 n

  -- ---- any path falls below the number of aliases

  lower_than_all : (s : SeenObject) (name : Units) (x : Option Meaning) → found us s name ≡ x → is_lower known (count_of aliases) x ≡ true
  lower_than_all s name None i = refl
  lower_than_all s name (Some (m.Cell place k a)) i = refl
  lower_than_all s name (Some (m.BuiltIn x)) i = refl
  lower_than_all s name (Some m.Changed) i = refl
  lower_than_all s name (Some (m.Signal e row)) i = refl
  lower_than_all s name (Some (m.Function e o row)) i = refl
  lower_than_all s name (Some (m.Alias e o row)) i = is_less (rank_in known e row) (count_of aliases) (alias_found s name e o row i).knows.low
    where
      is_less : (a c : ℕ) → a < c → nat_lt a c ≡ true
      is_less a c h = grind (arith, nat_tests)

  one_lower : (x : PathEnd) (name : Units) → one_falls us known (count_of aliases) x name ≡ true
  one_lower (at_object s) name = lower_than_all s name (found us s name) refl
  one_lower (at_cell w c k a) name = refl
  one_lower at_nothing name = refl
  one_lower in_circle name = refl

  all_fall : (x : PathEnd) (path : List Units) → falls us known (count_of aliases) x path ≡ true
  all_fall x [] = refl
  all_fall x (name ∷ rest) =
      ap (λ c. c && falls us known (count_of aliases) (followed us known x name) rest) (one_lower x name) ∙ all_fall (followed us known x name) rest

  -- ---- the end of a path

  steps_suffice : (l c n : ℕ) → c ≤ n → l + 4 * c < 4 + l + 4 * n
  steps_suffice l c n h = omega arith

  circle_is : (x : PathEnd) → is_circle x ≡ true → x ≡ in_circle
  circle_is in_circle i = refl
  circle_is (at_cell w c k a) i = absurd (false≢true i)
  circle_is (at_object s) i = absurd (false≢true i)
  circle_is at_nothing i = absurd (false≢true i)

  pub end_as_meant : (s : SeenObject) (path : List Units) → is_there us s.document s.object ≡ true → W (at_object s) path ≡ end_of p roots s path
  end_as_meant s path t = by_circle (is_circle (W (at_object s) path)) refl
    where
      of_near : W (at_object s) path ≡ in_circle → Near (E (steps_enough p path) s path) (W (at_object s) path) → W (at_object s) path ≡ E (steps_enough p path) s path
      of_near c (inl i) = c ∙ sym i
      of_near c (inr i) = sym i

      by_circle : (c : Bool) → is_circle (W (at_object s) path) ≡ c → W (at_object s) path ≡ E (steps_enough p path) s path
      by_circle true i = of_near (circle_is (W (at_object s) path) i) (near (steps_enough p path) s path t)
      by_circle false i =
          sym (same (steps_enough p path) (count_of aliases) s path t i (all_fall (at_object s) path) (steps_suffice (length path) (count_of aliases) (sum_by aliases_of_unit p) tells.few))

  pub alias_as_meant : (e row : ℕ) (a : Alias) → is_there us e a.object ≡ true → alias_in aliases e row ≡ Some a → known_end known e row ≡ end_of_alias p roots e a.object (target_of a)
  alias_as_meant e row a there i =
      (knows e row a i).same ∙ by_id (id_seen ids e a.object a.first) refl ∙
      ap (λ x. end_from_id (end_of p roots) None e x a.rest.items) (tells.told_ids e a.object a.first there).0
    where
      by_id : (x : Option ℕ) → id_seen ids e a.object a.first ≡ x → end_from us known e x a.rest.items ≡ end_from_id (end_of p roots) None e x a.rest.items
      by_id None i = refl
      by_id (Some t) i = end_as_meant (here e t) a.rest.items ((tells.told_ids e a.object a.first there).1 t i)
