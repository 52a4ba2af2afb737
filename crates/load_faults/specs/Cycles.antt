-- UnitCycle: a document uses itself as a type, through others too. It is told at the first use of a document from which
-- the using one is reached.
use Rattle.std.specs.Prelude.{ℕ, zero, suc, ◌||◌, Bool, nat_eq, if◌then◌else◌, List, [], ◌∷◌, map, length, Option, Some, None}
use Rattle.std.specs.List.{list_any, filter_map}
use Rattle.qml_base.specs.declared.numbers.Place.{Place}
use Rattle.qml_base.specs.declared.load_cause.LoadCause.TheVariants as cause
use Rattle.qml_types.specs.declared.kind.TypeRef.{TypeRef}
use Rattle.qml_types.specs.declared.kind.TypeRef.TheVariants.{Document as OfDocument}
use Rattle.program_names.specs.declared.fault.Fault.{Fault}
use Rattle.program_names.specs.Types.{TypeUse, uses_type, misnames_type}
use Rattle.program_names.specs.Reading.{fault, first_of}
use Rattle.program_names.specs.Loaded.{Program, unit_at, type_named}

-- a use of a document, with its place
pub record Use : Type 0 where
  pub at : Place
  pub document : ℕ

abbrev pub used_by : Place → Option TypeRef → Option Use
used_by at (Some (OfDocument u)) = Some (record { at = at; document = u.0 })
used_by at _ = None

abbrev pub use_in : Program → ℕ → TypeUse → Option Use
use_in p d (uses_type at q n) = used_by at (type_named p d q n)
use_in p d (misnames_type at) = None

-- the documents that a document uses, in the order of writing
abbrev pub uses_of : Program → ℕ → List Use
uses_of p d = filter_map (use_in p d) (unit_at p d).uses

abbrev pub is_one_of : ℕ → List ℕ → Bool
is_one_of d ds = list_any (nat_eq d) ds

abbrev pub added : List ℕ → List ℕ → List ℕ → List ℕ
added seen todo [] = todo
added seen todo (d ∷ rest) = added seen (if is_one_of d seen || is_one_of d todo then todo else d ∷ todo) rest

abbrev pub used_documents : Program → ℕ → List ℕ
used_documents p d = map (λ (u : Use). u.document) (uses_of p d)

abbrev pub reached_from : ℕ → Program → List ℕ → List ℕ → List ℕ
reached_from zero p seen todo = seen
reached_from (suc n) p seen [] = seen
reached_from (suc n) p seen (d ∷ todo) =
    reached_from n p (d ∷ seen) (added (d ∷ seen) todo (used_documents p d))

-- the documents that are reached from one by uses, itself among them
abbrev pub reached : Program → ℕ → List ℕ
reached p d = reached_from (suc (length p)) p [] (d ∷ [])

abbrev pub cycle_of_use : Program → ℕ → Use → Option Fault
cycle_of_use p d u = if is_one_of d (reached p u.document) then Some (fault u.at cause.UnitCycle) else None

abbrev pub unit_cycle : Program → ℕ → Option Fault
unit_cycle p d = first_of (filter_map (cycle_of_use p d) (uses_of p d))
