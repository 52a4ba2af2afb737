-- The uses of a program's documents.
use Rattle.std.proofs.Common.{◌≡◌, ◌∙◌, ap, refl, ℕ, zero, suc, if◌then◌else◌, List, [], ◌∷◌, length, Option, Some, None}
use Rattle.std.specs.List.{filter_map, cons_option}
use Rattle.qml_base.specs.declared.load_cause.LoadCause.TheVariants as cause
use Rattle.program_names.specs.declared.fault.Fault.{Fault}
use Rattle.program_names.specs.Reading.{fault, first_of}
use Rattle.program_names.specs.Loaded.{Program}
use Rattle.load_faults.specs.Cycles.{Use, uses_of, reached, unit_cycle}
use Rattle.unit_cycles.specs.Uses.{Uses, is_one_of, added, reached_by, cycle_by, first_by, cycle_in}
use Rattle.unit_cycles.specs.Waiting.{documents_of}

-- ---- the definition, in parts

abbrev reached_from : ℕ → Program → List ℕ → List ℕ → List ℕ
reached_from zero p seen todo = seen
reached_from (suc n) p seen [] = seen
reached_from (suc n) p seen (d ∷ todo) = reached_from n p (d ∷ seen) (added (d ∷ seen) todo (documents_of (uses_of p d)))

abbrev cycle_of_use : Program → ℕ → Use → Option Fault
cycle_of_use p d u = if is_one_of d (reached p u.document) then Some (fault u.at cause.UnitCycle) else None

reached_alike : (p : Program) (uses : Uses) → ((d : ℕ) → uses d ≡ uses_of p d) → (n : ℕ) (seen todo : List ℕ) → reached_by uses n seen todo ≡ reached_from n p seen todo
reached_alike p uses same zero seen todo = refl
reached_alike p uses same (suc n) seen [] = refl
reached_alike p uses same (suc n) seen (d ∷ todo) =
    ap (λ us. reached_by uses n (d ∷ seen) (added (d ∷ seen) todo (documents_of us))) (same d) ∙
    reached_alike p uses same n (d ∷ seen) (added (d ∷ seen) todo (documents_of (uses_of p d)))

use_alike : (p : Program) (uses : Uses) → ((d : ℕ) → uses d ≡ uses_of p d) → (d : ℕ) (u : Use) → cycle_by uses (length p) d u ≡ cycle_of_use p d u
use_alike p uses same d u =
    ap (λ ds. if is_one_of d ds then Some (fault u.at cause.UnitCycle) else None) (reached_alike p uses same (suc (length p)) [] (u.document ∷ []))

filtered : (f g : Use → Option Fault) → ((u : Use) → f u ≡ g u) → (us : List Use) → filter_map f us ≡ filter_map g us
filtered f g same [] = refl
filtered f g same (u ∷ us) = ap (λ o. cons_option o (filter_map f us)) (same u) ∙ ap (cons_option (g u)) (filtered f g same us)

pub cycle_alike : (p : Program) (uses : Uses) → ((d : ℕ) → uses d ≡ uses_of p d) → (d : ℕ) → cycle_in uses (length p) d ≡ unit_cycle p d
cycle_alike p uses same d =
    ap (first_by uses (length p) d) (same d) ∙ ap first_of (filtered (cycle_by uses (length p) d) (cycle_of_use p d) (use_alike p uses same d) (uses_of p d))
