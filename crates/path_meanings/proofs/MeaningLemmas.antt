-- Names lead where they lead in the program, and mean what they mean there.
use Rattle.std.proofs.Common.{◌≡◌, ◌∙◌, ap, sym, refl, subst, ℕ, suc, ◌+◌, Bool, true, false, List, [], ◌∷◌, ◌++◌, length, Option, Some, None, is_some}
use Rattle.std.specs.Prelude.{◌&&◌, if◌then◌else◌}
use Rattle.std.specs.Option.{option_map}
use Rattle.qml_syntax.specs.Tree.{Units}
use Rattle.name_table.specs.Named.{under}
use Rattle.program_names.specs.Names.{last_name, front_names, last_of, front_of}
use Rattle.program_names.specs.Loaded.{Program}
use Rattle.program_names.specs.Layers.{NameMeaning, meaning, handled}
use Rattle.program_names.specs.Components.{Roots}
use Rattle.program_names.specs.PathMeanings.{Way, SeenObject, way_to, PathEnd, at_cell, at_object, at_nothing, in_circle, holder_in, end_of, PathMeaning as AMeaning, children_of, no_meaning, by_end, is_cell as is_a_cell, is_children as are_children, or_handler, meaning_at, meaning_behind, meaning_of_path}
use Rattle.program_tables.specs.declared.built_in.BuiltInName.{BuiltInName}
use Rattle.program_tables.specs.declared.built_in.BuiltInName.TheVariants as b
use Rattle.program_tables.specs.declared.names.Declared.TheVariants as d
use Rattle.program_tables.specs.declared.names.Meaning.{Meaning}
use Rattle.program_tables.specs.declared.names.Meaning.TheVariants as m
use Rattle.program_tables.specs.declared.names.ObjectNames.{ObjectNames}
use Rattle.program_tables.specs.declared.names.UnitNames.{UnitNames}
use Rattle.program_tables.specs.Walk.{object_in, found_at}
use Rattle.program_tables.specs.Stands.{is_there, meant}
use Rattle.program_tables.proofs.MeaningLemmas.{found_as_meant}
use Rattle.path_ends.specs.declared.aliases.UnitAliases.{UnitAliases}
use Rattle.path_ends.specs.declared.aliases.UnitIds.{UnitIds}
use Rattle.path_ends.specs.declared.aliases.UnitEnds.{UnitEnds}
use Rattle.path_ends.specs.Said.{known_end}
use Rattle.path_ends.specs.Ends.{end_through, found, end_built_in, end_by, followed, walked}
use Rattle.path_ends.specs.Known.{IsThere, KnowsAll, SaysAlias, Tells}
use Rattle.path_ends.proofs.ProgramLemmas.{end_as_meant}
use Rattle.handler_names.specs.declared.declared.UnitHandlers.{UnitHandlers}
use Rattle.handler_names.specs.Handlers.{handled_at}
use Rattle.handler_names.specs.Told.{HandlersTold}
use Rattle.handler_names.proofs.LayerLemmas.{handled_as_meant}
use Rattle.path_meanings.specs.declared.reached.Reached.{Reached}
use Rattle.path_meanings.specs.declared.reached.Reached.TheVariants as r
use Rattle.path_meanings.specs.declared.meanings.PathMeaning.{PathMeaning}
use Rattle.path_meanings.specs.declared.meanings.PathMeaning.TheVariants as p
use Rattle.path_meanings.specs.Reached.{reached, by_meaning, onward, along}
use Rattle.path_meanings.specs.Meanings.{is_cell, is_children, by_reached, by_found, by_handler, by_name, at_last, meant_along}
use Rattle.path_meanings.specs.Bare.{bare, is_short}
use Rattle.path_meanings.proofs.AlongLemmas.{along_both, meant_so, front_both, last_both}
use Rattle.path_meanings.proofs.DeclaredLemmas.{Holds, found_holds}

-- ---- ends without ways

bare_through : (h : Option Way) (e : ℕ) (x : PathEnd) → reached (end_through h e x) ≡ reached x
bare_through h e (at_cell w place k a) = refl
bare_through h e (at_object s) = refl
bare_through h e at_nothing = refl
bare_through h e in_circle = refl

bare_built_in : (s : SeenObject) (known : List UnitEnds) (x : BuiltInName) → reached (end_built_in s x) ≡ by_meaning known (Some (m.BuiltIn x))
bare_built_in s known (b.Cell place k a) = refl
bare_built_in s known b.Changed = refl
bare_built_in s known (b.Signal t i) = refl
bare_built_in s known b.Method = refl
bare_built_in s known b.Children = refl

bare_found : (known : List UnitEnds) (s : SeenObject) (x : Option Meaning) → reached (end_by known s x) ≡ by_meaning known x
bare_found known s None = refl
bare_found known s (Some (m.Cell place k a)) = refl
bare_found known s (Some (m.BuiltIn x)) = bare_built_in s known x
bare_found known s (Some m.Changed) = refl
bare_found known s (Some (m.Signal e row)) = refl
bare_found known s (Some (m.Function e o row)) = refl
bare_found known s (Some (m.Alias e o row)) = bare_through (holder_in s e) e (known_end known e row)

bare_on : (us : List UnitNames) (known : List UnitEnds) (x : PathEnd) (name : Units) → reached (followed us known x name) ≡ onward us known (reached x) name
bare_on us known (at_cell w place k a) name = refl
bare_on us known (at_object s) name = bare_found known s (found us s name)
bare_on us known at_nothing name = refl
bare_on us known in_circle name = refl

bare_along : (us : List UnitNames) (known : List UnitEnds) (x : PathEnd) (path : List Units) → reached (walked us known x path) ≡ along us known (reached x) path
bare_along us known x [] = refl
bare_along us known x (name ∷ rest) = bare_along us known (followed us known x name) rest ∙ ap (λ y. along us known y rest) (bare_on us known x name)

-- ---- what is led to is there

abbrev There : List UnitNames → Reached → Type 0
There us (r.Object e o) = is_there us e o ≡ true
There us _ = Unit {0}

end_there : (us : List UnitNames) (x : PathEnd) → IsThere us x → There us (reached x)
end_there us (at_cell w place k a) h = tt
end_there us (at_object s) h = h
end_there us at_nothing h = tt
end_there us in_circle h = tt

-- ---- names that are found

same_cell : (q : Program) (x : Option Meaning) → is_a_cell (option_map (meant q) x) ≡ is_cell x
same_cell q None = refl
same_cell q (Some (m.Cell place k a)) = refl
same_cell q (Some (m.BuiltIn (b.Cell place k a))) = refl
same_cell q (Some (m.BuiltIn b.Changed)) = refl
same_cell q (Some (m.BuiltIn (b.Signal t i))) = refl
same_cell q (Some (m.BuiltIn b.Method)) = refl
same_cell q (Some (m.BuiltIn b.Children)) = refl
same_cell q (Some m.Changed) = refl
same_cell q (Some (m.Signal e row)) = refl
same_cell q (Some (m.Function e o row)) = refl
same_cell q (Some (m.Alias e o row)) = refl

same_children : (q : Program) (x : Option Meaning) → are_children (option_map (meant q) x) ≡ is_children x
same_children q None = refl
same_children q (Some (m.Cell place k a)) = refl
same_children q (Some (m.BuiltIn (b.Cell place k a))) = refl
same_children q (Some (m.BuiltIn b.Changed)) = refl
same_children q (Some (m.BuiltIn (b.Signal t i))) = refl
same_children q (Some (m.BuiltIn b.Method)) = refl
same_children q (Some (m.BuiltIn b.Children)) = refl
same_children q (Some m.Changed) = refl
same_children q (Some (m.Signal e row)) = refl
same_children q (Some (m.Function e o row)) = refl
same_children q (Some (m.Alias e o row)) = refl

bare_end : (own : Bool) (x : PathEnd) → bare (by_end own x) ≡ by_reached own (reached x)
bare_end own (at_cell w place k a) = refl
bare_end own (at_object s) = refl
bare_end own at_nothing = refl
bare_end own in_circle = refl

bare_handler : (own : Bool) (names : Option (List Units)) (x : AMeaning) → bare (or_handler own names x) ≡ (if is_some names then by_handler own else bare x)
bare_handler own None x = refl
bare_handler true (Some names) x = refl
bare_handler false (Some names) x = refl

bare_choice : (c : Bool) (w : Way) (x : AMeaning) → bare (if c then children_of w else x) ≡ (if c then p.Children else bare x)
bare_choice true w x = refl
bare_choice false w x = refl

-- the definition, by the words that it is made of

path_so : (q : Program) (roots : Roots) (s : SeenObject) (path : List Units) → meaning_of_path q roots s path ≡ meaning_behind q roots (is_short path) (end_of q roots s (front_of path)) (last_of path)
path_so q roots s path = refl

module _ (q : Program) (roots : Roots) (us : List UnitNames) (ids : List UnitIds) (aliases : List UnitAliases) (known : List UnitEnds)
    (tells : Tells q roots us ids aliases) (knows : KnowsAll us ids aliases known) where
  pub leads : (s : SeenObject) (path : List Units) → is_there us s.document s.object ≡ true → along us known (r.Object s.document s.object) path ≡ reached (end_of q roots s path)
  leads s path t = sym (bare_along us known (at_object s) path) ∙ ap reached (end_as_meant q roots us ids aliases known tells knows s path t)

  abbrev AliasThere : ℕ → ℕ → Type 0
  AliasThere e row = There us (reached (known_end known e row))

  alias_there : (e o : ℕ) (x : ObjectNames) (name : Units) (row : ℕ) → object_in us e o ≡ Some x → under x.names name ≡ Some (d.Alias row) → AliasThere e row
  alias_there e o x name row i h =
      let a : SaysAlias q aliases e o row = tells.told_aliases e o x name row i h in
      end_there us (known_end known e row) (knows e row a.alias a.kept).there

  meaning_there : (x : Option Meaning) → ((e o row : ℕ) → x ≡ Some (m.Alias e o row) → AliasThere e row) → There us (by_meaning known x)
  meaning_there None h = tt
  meaning_there (Some (m.Cell place k a)) h = tt
  meaning_there (Some (m.BuiltIn (b.Cell place k a))) h = tt
  meaning_there (Some (m.BuiltIn b.Changed)) h = tt
  meaning_there (Some (m.BuiltIn (b.Signal t i))) h = tt
  meaning_there (Some (m.BuiltIn b.Method)) h = tt
  meaning_there (Some (m.BuiltIn b.Children)) h = tt
  meaning_there (Some m.Changed) h = tt
  meaning_there (Some (m.Signal e row)) h = tt
  meaning_there (Some (m.Function e o row)) h = tt
  meaning_there (Some (m.Alias e o row)) h = h e o row refl

  on_there : (x : Reached) (name : Units) → There us (onward us known x name)
  on_there (r.Cell k a) name = tt
  on_there r.Nothing name = tt
  on_there (r.Object e o) name =
      meaning_there (found_at (length us + 1) us e o name)
      (λ u k row i. subst (Holds us AliasThere alias_there) i (found_holds us AliasThere alias_there (length us + 1) e o name))

  along_there : (x : Reached) (path : List Units) → There us x → There us (along us known x path)
  along_there x [] h = h
  along_there x (name ∷ rest) h = along_there (onward us known x name) rest (on_there x name)

  module _ (hs : List UnitHandlers) (told : HandlersTold q us hs) where
    last_as_meant : (s : SeenObject) (own : Bool) (name : Units) → is_there us s.document s.object ≡ true
        → at_last us hs known own (r.Object s.document s.object) name ≡ bare (meaning_at q roots s own name)
    last_as_meant s own name t =
        let e = s.document in
        let o = s.object in
        let x = found_at (length us + 1) us e o name in
        let h = is_some (handled q e o name) in
        let same : option_map (meant q) x ≡ meaning q e o name = found_as_meant q us tells.stands e o t name in
        let children : is_children x ≡ are_children (meaning q e o name) = sym (same_children q x) ∙ ap are_children same in
        let cell : is_cell x ≡ is_a_cell (meaning q e o name) = sym (same_cell q x) ∙ ap is_a_cell same in
        ap (λ c. by_name c known own x) (handled_as_meant q us hs tells.stands told e o t name) ∙
        ap (λ c. if h then by_handler own else (if own && c then p.Children else by_reached (own && is_cell x) (by_meaning known x))) children ∙
        ap (λ c. if h then by_handler own else (if own && are_children (meaning q e o name) then p.Children else by_reached (own && c) (by_meaning known x))) cell ∙
        ap (λ y. if h then by_handler own else (if own && are_children (meaning q e o name) then p.Children else by_reached (own && is_a_cell (meaning q e o name)) y))
        (leads s (name ∷ []) t) ∙
        ap (λ y. if h then by_handler own else (if own && are_children (meaning q e o name) then p.Children else y))
        (sym (bare_end (own && is_a_cell (meaning q e o name)) (end_of q roots s (name ∷ [])))) ∙
        ap (λ y. if h then by_handler own else y)
        (sym (bare_choice (own && are_children (meaning q e o name)) (way_to s) (by_end (own && is_a_cell (meaning q e o name)) (end_of q roots s (name ∷ []))))) ∙
        sym (bare_handler own (handled q e o name) (if own && are_children (meaning q e o name) then children_of (way_to s) else by_end (own && is_a_cell (meaning q e o name)) (end_of q roots s (name ∷ []))))

    behind_as_meant : (own : Bool) (x : PathEnd) (name : Units) → There us (reached x) → at_last us hs known own (reached x) name ≡ bare (meaning_behind q roots own x name)
    behind_as_meant own (at_cell w place k a) name h = refl
    behind_as_meant own (at_object s) name h = last_as_meant s own name h
    behind_as_meant own at_nothing name h = refl
    behind_as_meant own in_circle name h = refl

    pub path_as_meant : (s : SeenObject) (before : List Units) (first : Units) (rest : List Units) → is_there us s.document s.object ≡ true
        → meant_along us hs known (is_short (before ++ first ∷ rest)) (along us known (r.Object s.document s.object) before) first rest ≡ bare (meaning_of_path q roots s (before ++ first ∷ rest))
    path_as_meant s before first rest t =
        let path : List Units = before ++ first ∷ rest in
        let start : Reached = r.Object s.document s.object in
        let own = is_short path in
        meant_so us hs known own (along us known start before) first rest ∙
        ap (λ x. at_last us hs known own x (last_name first rest)) (sym (along_both us known start before (front_names first rest)) ∙ ap (along us known start) (sym (front_both before first rest))) ∙
        ap (λ n. at_last us hs known own (along us known start (front_of path)) n) (sym (last_both before first rest)) ∙
        ap (λ x. at_last us hs known own x (last_of path)) (leads s (front_of path) t) ∙
        behind_as_meant own (end_of q roots s (front_of path)) (last_of path) (subst (There us) (leads s (front_of path) t) (along_there start (front_of path) t)) ∙
        ap bare (sym (path_so q roots s path))
