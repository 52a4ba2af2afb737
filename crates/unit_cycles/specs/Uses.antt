-- Documents that use one another, by their numbers; and the uses by which one uses itself.
use Rattle.std.specs.Prelude.{ℕ, zero, suc, ◌<◌, ◌||◌, Bool, nat_eq, if◌then◌else◌, List, [], ◌∷◌, map, slice_get, Contains, Option, Some, None}
use Rattle.std.specs.Option.{option_map, unwrap_or}
use Rattle.std.specs.List.{list_any, filter_map}
use Rattle.std.specs.declared.alloc.Global.{Global}
use Rattle.std.specs.declared.vec.Vec.{Vec}
use Rattle.qml_base.specs.declared.load_cause.LoadCause.TheVariants as cause
use Rattle.program_names.specs.declared.fault.Fault.{Fault}
use Rattle.program_names.specs.Reading.{fault, first_of}
use Rattle.load_faults.specs.Cycles.{Use}
use Rattle.unit_cycles.specs.declared.uses.DocumentUse.{DocumentUse}

-- the uses of each document
abbrev pub Uses : Type 0
Uses = ℕ → List Use

abbrev pub use_of : DocumentUse → Use
use_of u = record { at = u.at; document = u.document }

abbrev pub uses_in : Vec DocumentUse Global → List Use
uses_in row = map use_of row.items

-- those of the document of a number; one that isn't there has none
abbrev pub uses_at : List (Vec DocumentUse Global) → Uses
uses_at rows d = unwrap_or (option_map uses_in (slice_get rows d)) []

abbrev pub is_one_of : ℕ → List ℕ → Bool
is_one_of d ds = list_any (nat_eq d) ds

-- the documents that wait, with those of these in front that were neither reached nor wait
abbrev pub added : List ℕ → List ℕ → List ℕ → List ℕ
added seen todo [] = todo
added seen todo (d ∷ rest) = added seen (if is_one_of d seen || is_one_of d todo then todo else d ∷ todo) rest

-- those that are reached in so many steps from those that wait
abbrev pub reached_by : Uses → ℕ → List ℕ → List ℕ → List ℕ
reached_by uses zero seen todo = seen
reached_by uses (suc n) seen [] = seen
reached_by uses (suc n) seen (d ∷ todo) =
    reached_by uses n (d ∷ seen) (added (d ∷ seen) todo (map (λ (u : Use). u.document) (uses d)))

-- whether a document is reached from another, where there are so many
abbrev pub reaches : Uses → ℕ → ℕ → ℕ → Bool
reaches uses count goal from = is_one_of goal (reached_by uses (suc count) [] (from ∷ []))

abbrev pub cycle_by : Uses → ℕ → ℕ → Use → Option Fault
cycle_by uses count d u = if reaches uses count d u.document then Some (fault u.at cause.UnitCycle) else None

abbrev pub first_by : Uses → ℕ → ℕ → List Use → Option Fault
first_by uses count d us = first_of (filter_map (cycle_by uses count d) us)

-- the first use of a document by which it uses itself
abbrev pub cycle_in : Uses → ℕ → ℕ → Option Fault
cycle_in uses count d = first_by uses count d (uses d)

-- the first of these documents with a fault, and it
abbrev pub first_in : (ℕ → Option Fault) → List ℕ → Option (ℕ × Fault)
first_in f [] = None
first_in f (d ∷ rest) = elim (f d) [ Some x ↦ Some (d, x) | None ↦ first_in f rest ]

-- ---- ranks

abbrev pub rank_of : List ℕ → ℕ → ℕ
rank_of ranks d = unwrap_or (slice_get ranks d) 0

-- each document stands higher than those that it uses
abbrev pub Descend : Uses → List ℕ → Type 0
Descend uses ranks = (d : ℕ) (u : Use) → Contains (uses d) u → rank_of ranks u.document < rank_of ranks d

abbrev pub AllBelow : List ℕ → List Use → ℕ → Type 0
AllBelow ranks us rank = (u : Use) → Contains us u → rank_of ranks u.document < rank
