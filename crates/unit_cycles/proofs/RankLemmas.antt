-- Where documents can be ranked there is no cycle.
use Rattle.std.proofs.Common.{◌≡◌, ◌∙◌, ap, sym, subst, refl, arith, ℕ, zero, suc, ◌<◌, Bool, true, false, ◌||◌, if◌then◌else◌, List, [], ◌∷◌, Option, Some, None, inl, inr, ◌⊎◌}
use Rattle.std.specs.Prelude.{⊤, nat_eq, Contains, slice_get}
use Rattle.std.specs.Option.{option_map, unwrap_or}
use Rattle.std.specs.List.{filter_map, cons_option}
use Rattle.std.specs.declared.alloc.Global.{Global}
use Rattle.std.specs.declared.vec.Vec.{Vec}
use Rattle.std.proofs.lemmas.Bool.{eqb-true}
use Rattle.std.proofs.lemmas.List.Elements.{Contains-append_right, Contains-append_cases}
use Rattle.qml_base.specs.declared.load_cause.LoadCause.TheVariants as cause
use Rattle.program_names.specs.declared.fault.Fault.{Fault}
use Rattle.program_names.specs.Reading.{fault, first_of}
use Rattle.load_faults.specs.Cycles.{Use}
use Rattle.unit_cycles.specs.declared.uses.DocumentUse.{DocumentUse}
use Rattle.unit_cycles.specs.Uses.{Uses, uses_at, uses_in, is_one_of, added, reached_by, reaches, cycle_by, cycle_in, first_by, first_in, rank_of, Descend, AllBelow}
use Rattle.unit_cycles.specs.Waiting.{documents_of}

none_in : {X A : Type 0} (x : X) → Contains [] x → A
none_in x (k, less, same) = absurd (omega arith)

first_stands : {X : Type 0} (x : X) (xs : List X) → Contains (x ∷ xs) x
first_stands x xs = (0, omega arith, refl)

the_one : {X : Type 0} (x e : X) → Contains (x ∷ []) e → x ≡ e
the_one x e (zero, less, same) = same
the_one x e (suc k, less, same) = absurd (omega arith)

-- ---- one use after another

pub below_none : (ranks : List ℕ) (rank : ℕ) → AllBelow ranks [] rank
below_none ranks rank u c = none_in u c

pub below_more : (ranks : List ℕ) (u : Use) (us : List Use) (rank : ℕ) → rank_of ranks u.document < rank → AllBelow ranks us rank → AllBelow ranks (u ∷ us) rank
below_more ranks u us rank less rest v c = by_place (Contains-append_cases (u ∷ []) us v c)
  where
    by_place : Contains (u ∷ []) v ⊎ Contains us v → rank_of ranks v.document < rank
    by_place (inl d) = subst (λ (w : Use). rank_of ranks w.document < rank) (the_one u v d) less
    by_place (inr d) = rest v d

-- ---- what is reached stands lower

abbrev Low : List ℕ → ℕ → List ℕ → Type 0
Low ranks r [] = ⊤
Low ranks r (d ∷ ds) = (rank_of ranks d < r) × Low ranks r ds

low_choice : (ranks : List ℕ) (r : ℕ) (b : Bool) (d : ℕ) (todo : List ℕ) → Low ranks r todo → rank_of ranks d < r → Low ranks r (if b then todo else d ∷ todo)
low_choice ranks r true d todo low less = low
low_choice ranks r false d todo low less = (less, low)

low_added : (ranks : List ℕ) (r : ℕ) (seen todo ds : List ℕ) → Low ranks r todo → Low ranks r ds → Low ranks r (added seen todo ds)
low_added ranks r seen todo [] low rest = low
low_added ranks r seen todo (d ∷ ds) low rest =
    low_added ranks r seen (if is_one_of d seen || is_one_of d todo then todo else d ∷ todo) ds
    (low_choice ranks r (is_one_of d seen || is_one_of d todo) d todo low rest.0) rest.1

low_used : (ranks : List ℕ) (r : ℕ) (us : List Use) → AllBelow ranks us r → Low ranks r (documents_of us)
low_used ranks r [] below = _
low_used ranks r (u ∷ us) below = (below u (first_stands u us), low_used ranks r us (λ v c. below v (Contains-append_right (u ∷ []) us v c)))

low_more : (ranks : List ℕ) (r d : ℕ) (us : List Use) → rank_of ranks d < r → AllBelow ranks us (rank_of ranks d) → AllBelow ranks us r
low_more ranks r d us less below u c = further (rank_of ranks u.document) (rank_of ranks d) r (below u c) less
  where
    further : (a b c : ℕ) → a < b → b < c → a < c
    further a b c e f = omega arith

low_reached : (uses : Uses) (ranks : List ℕ) → Descend uses ranks → (r n : ℕ) (seen todo : List ℕ) → Low ranks r seen → Low ranks r todo → Low ranks r (reached_by uses n seen todo)
low_reached uses ranks descend r zero seen todo low wait = low
low_reached uses ranks descend r (suc n) seen [] low wait = low
low_reached uses ranks descend r (suc n) seen (d ∷ todo) low wait =
    low_reached uses ranks descend r n (d ∷ seen) (added (d ∷ seen) todo (documents_of (uses d))) (wait.0, low)
    (low_added ranks r (d ∷ seen) todo (documents_of (uses d)) wait.1 (low_used ranks r (uses d) (low_more ranks r d (uses d) wait.0 (λ u c. descend d u c))))

nat_same : (a b : ℕ) → nat_eq a b ≡ true → a ≡ b
nat_same a b e = eqb-true a b e

not_low : (ranks : List ℕ) (d : ℕ) (ds : List ℕ) → Low ranks (rank_of ranks d) ds → is_one_of d ds ≡ false
not_low ranks d [] low = refl
not_low ranks d (e ∷ ds) low = by_test (nat_eq d e) refl (not_low ranks d ds low.1)
  where
    itself : (a : ℕ) → a < a → ⊥
    itself a less = omega arith

    by_test : (b : Bool) → nat_eq d e ≡ b → is_one_of d ds ≡ false → (b || is_one_of d ds) ≡ false
    by_test true s rest = absurd (itself (rank_of ranks d) (subst (λ x. rank_of ranks x < rank_of ranks d) (sym (nat_same d e s)) low.0))
    by_test false s rest = rest

not_reached : (uses : Uses) (ranks : List ℕ) (count d : ℕ) (u : Use) → Descend uses ranks → Contains (uses d) u → reaches uses count d u.document ≡ false
not_reached uses ranks count d u descend c =
    not_low ranks d (reached_by uses (suc count) [] (u.document ∷ []))
    (low_reached uses ranks descend (rank_of ranks d) (suc count) [] (u.document ∷ []) _ (descend d u c, _))

no_fault : (uses : Uses) (count d : ℕ) (us : List Use) → ((u : Use) → Contains us u → reaches uses count d u.document ≡ false) → first_by uses count d us ≡ None
no_fault uses count d [] none = refl
no_fault uses count d (u ∷ us) none =
    ap (λ (b : Bool). first_of (cons_option (if b then Some (fault u.at cause.UnitCycle) else None) (filter_map (cycle_by uses count d) us)))
    (none u (first_stands u us)) ∙
    no_fault uses count d us (λ v c. none v (Contains-append_right (u ∷ []) us v c))

pub no_cycle : (uses : Uses) (ranks : List ℕ) (count : ℕ) → Descend uses ranks → (order : List ℕ) → first_in (cycle_in uses count) order ≡ None
no_cycle uses ranks count descend [] = refl
no_cycle uses ranks count descend (d ∷ order) =
    ap (λ (o : Option Fault). elim o [ Some x ↦ Some (d, x) | None ↦ first_in (cycle_in uses count) order ])
    (no_fault uses count d (uses d) (λ u c. not_reached uses ranks count d u descend c)) ∙
    no_cycle uses ranks count descend order

-- ---- the test

pub rows_below : (ranks : List ℕ) (rows : List (Vec DocumentUse Global)) (d : ℕ) (u : Use) → slice_get rows d ≡ None → Contains (uses_at rows d) u → rank_of ranks u.document < rank_of ranks d
rows_below ranks rows d u none c = none_in u (subst (λ us. Contains us u) (ap (λ (o : Option (Vec DocumentUse Global)). unwrap_or (option_map uses_in o) []) none) c)
