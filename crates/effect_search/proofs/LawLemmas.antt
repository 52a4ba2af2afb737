-- Numbered functions come to an effect as the functions of a program do.
use Rattle.std.proofs.Common.{◌≡◌, ◌∙◌, ap, sym, refl, ℕ, Bool, true, false, List, Some}
use Rattle.std.specs.Prelude.{slice_get, Contains}
use Rattle.std.proofs.lemmas.Bool.{false≢true}
use Rattle.program_names.specs.Loaded.{Program}
use Rattle.program_names.specs.Components.{Roots}
use Rattle.load_faults.specs.Effects.{Declared, is_impure}
use Rattle.impure_functions.specs.Functions.{acts}
use Rattle.impure_functions.specs.Least as l
use Rattle.impure_functions.proofs.HasLemmas.{from_has}
use Rattle.impure_functions.proofs.SearchLemmas.{is_sound}
use Rattle.impure_functions.proofs.LeastLemmas.{is_complete}
use Rattle.effect_search.specs.declared.search.Call.{Call}
use Rattle.effect_search.specs.Marks.{Comes, by_itself, by_call, call, AreMarked, AreNumbered}
use Rattle.effect_search.proofs.MarkLemmas.{there, some_is, got}

module _ (p : Program) (roots : Roots) (functions : List Declared) (own : List Bool) (calls : List Call) (n : AreNumbered p roots functions own calls) where
  to_numbers : (f : Declared) → l.ComesToEffect p roots f → (k : ℕ) → slice_get functions k ≡ Some f → Comes own calls k
  to_numbers _ (l.by_itself f a) k e = by_itself k (n.effects k f e ∙ ap Some a)
  to_numbers _ (l.by_call f g c x) k e =
      let to : (j : ℕ) × (slice_get functions j ≡ Some g) × Contains calls (call k j) = n.all_calls k f g e c in
      by_call k to.0 (acts p roots f) (n.effects k f e) to.2 (to_numbers g x to.0 to.1)

  is_there : (k : ℕ) → Comes own calls k → (b : Bool) × (slice_get own k ≡ Some b)
  is_there _ (by_itself k e) = (true, e)
  is_there _ (by_call k j b e c x) = (b, e)

  from_numbers : (k : ℕ) → Comes own calls k → (f : Declared) → slice_get functions k ≡ Some f → l.ComesToEffect p roots f
  from_numbers _ (by_itself k e) f h = l.by_itself f (some_is (sym (n.effects k f h) ∙ e))
  from_numbers _ (by_call k j b e c x) f h =
      let own_there : (y : Bool) × (slice_get own j ≡ Some y) = is_there j x in
      let g : (y : Declared) × (slice_get functions j ≡ Some y) = there own functions j own_there.0 n.long own_there.1 in
      l.by_call f g.0 (n.calls_are k j f g.0 h g.1 c) (from_numbers j x g.0 g.1)

  pub impure_told : (marks : List Bool) → l.AreWhole p roots functions → AreMarked own calls marks → (k : ℕ) (f : Declared) → slice_get functions k ≡ Some f → slice_get marks k ≡ Some (is_impure p roots f)
  impure_told marks whole m k f e = by_test (is_impure p roots f) refl here.0 here.1
    where
      here : (b : Bool) × (slice_get marks k ≡ Some b)
      here = there functions marks k f (sym (m.long ∙ n.long)) e

      by_test : (b : Bool) → is_impure p roots f ≡ b → (c : Bool) → slice_get marks k ≡ Some c → slice_get marks k ≡ Some b
      by_test true i c h = m.all k (to_numbers f (is_sound p roots f i) k e)
      by_test false i false h = h
      by_test false i true h =
          absurd (false≢true (sym i ∙ is_complete p roots functions whole f (from_has functions f (got functions k f e)) (from_numbers k (m.sound k h) f e)))
