-- Faults of a document: their order, going through its objects and their members, and what a value is for.
use Rattle.std.specs.Prelude.{◌≡◌, Contains, ℕ, suc, Bool, true, false, ◌&&◌, ◌||◌, not, nat_lt, if◌then◌else◌, List, [], ◌∷◌, ◌++◌, Option, Some, None, codes}
use Rattle.std.specs.Str.{bytes_eq}
use Rattle.std.specs.List.{flat_map}
use Rattle.qml_base.specs.declared.numbers.Place.{Place}
use Rattle.qml_base.specs.declared.load_cause.LoadCause.{LoadCause}
use Rattle.qml_base.specs.declared.load_cause.LoadCause.TheVariants as cause
use Rattle.qml_syntax.specs.Tree.{Units}
use Rattle.qml_syntax.specs.Depth.{place_of_stmt}
use Rattle.qml_types.specs.declared.kind.TypeNo.TheVariants as no
use Rattle.program_names.specs.declared.fault.Fault.{Fault}
use Rattle.program_names.specs.Names.{is_handler_name}
use Rattle.program_names.specs.Written.{WrittenObject, WrittenMember, WrittenValue, by_stmt, by_object, by_list, place_of_type}
use Rattle.program_names.specs.Loaded.{Program, unit_at, object_at}
use Rattle.program_names.specs.Layers.{is_type}
use Rattle.program_names.specs.Components.{Roots, is_before}
use Rattle.program_names.specs.PathMeanings.{PathMeaning}
use Rattle.program_names.specs.ComponentRoots.{meaning_given}

abbrev pub Faults : Type 0
Faults = List Fault

abbrev pub fault_at : Place → LoadCause → Faults
fault_at p why = record { at = p; cause = why } ∷ []

abbrev pub fault_if : Bool → Place → LoadCause → Faults
fault_if b p why = if b then fault_at p why else []

-- at one place the cause that stands earlier here is told
abbrev pub rank : LoadCause → ℕ
rank cause.Missing = 0
rank cause.TooMany = 1
rank cause.Syntax = 2
rank cause.TooDeep = 3
rank cause.UnknownModule = 4
rank cause.UnknownType = 5
rank cause.UnitCycle = 6
rank cause.DuplicateId = 7
rank cause.DuplicateName = 8
rank cause.UnknownProperty = 9
rank cause.ReadOnly = 10
rank cause.NotLiteral = 11
rank cause.BadKind = 12
rank cause.BadAlias = 13
rank cause.AliasCycle = 14
rank cause.BadTarget = 15
rank cause.UnknownState = 16
rank cause.ExtendCycle = 17
rank cause.BadBinding = 18
rank cause.SideEffect = 19
rank cause.NotYet = 20

-- by place, and at one place by rank
abbrev pub comes_before : Fault → Fault → Bool
comes_before a b = is_before a.at b.at || (not (is_before b.at a.at) && nat_lt (rank a.cause) (rank b.cause))

abbrev pub first_of_two : Option Fault → Fault → Option Fault
first_of_two None b = Some b
first_of_two (Some a) b = if comes_before b a then Some b else Some a

abbrev pub first_from : Option Fault → Faults → Option Fault
first_from best [] = best
first_from best (f ∷ rest) = first_from (first_of_two best f) rest

-- the first of some faults
abbrev pub first_fault : Faults → Option Fault
first_fault faults = first_from None faults

-- one of the faults before which none of them comes
abbrev pub IsFirst : Faults → Fault → Type 0
IsFirst faults f = Contains faults f × ((g : Fault) → Contains faults g → comes_before g f ≡ false)

abbrev pub SameFirst : Option Fault → Faults → Faults → Type 0
SameFirst kept some others = first_from kept some ≡ first_from kept others

-- ---- going through a document

abbrev pub objects_from : ℕ → List WrittenObject → (ℕ → WrittenObject → Faults) → Faults
objects_from o [] f = []
objects_from o (w ∷ rest) f = f o w ++ objects_from (suc o) rest f

abbrev pub each_object : Program → ℕ → (ℕ → WrittenObject → Faults) → Faults
each_object p d f = objects_from 0 (unit_at p d).objects f

abbrev pub each_member : Program → ℕ → (ℕ → WrittenMember → Faults) → Faults
each_member p d f = each_object p d (λ o w. flat_map (f o) w.members)

abbrev pub place_of_object : Program → ℕ → ℕ → Place
place_of_object p d o = place_of_type (object_at p d o).type

-- the first token of a value: of an object that of its type's name, of a list its `[`
abbrev pub place_of_value : Program → ℕ → WrittenValue → Place
place_of_value p d (by_stmt s) = place_of_stmt s
place_of_value p d (by_object n) = place_of_object p d n
place_of_value p d (by_list q ns) = q

-- ---- what a value is for: a role of a row, one of the two attached handlers, a handler for the target of a Connections,
-- or what its path means
pub data Purpose : Type 0 where
  for_role : Purpose
  as_attached : Purpose
  for_target : Purpose
  by_path : PathMeaning → Purpose

abbrev pub is_attached_name : Units → Bool
is_attached_name n = bytes_eq n (codes "onCompleted") || bytes_eq n (codes "onDestruction")

-- `Component.onCompleted` and `Component.onDestruction`, by their spelling
abbrev pub is_attached : List Units → Bool
is_attached (c ∷ n ∷ []) = bytes_eq c (codes "Component") && is_attached_name n
is_attached _ = false

abbrev pub is_handler_path : List Units → Bool
is_handler_path (n ∷ []) = is_handler_name n
is_handler_path _ = false

-- Each handler of a Connections is for its target.
abbrev pub for_its_target : Program → ℕ → ℕ → List Units → Bool
for_its_target p d o path = is_type p d o no.Connections && is_handler_path path

abbrev pub purpose_in_object : Program → Roots → ℕ → ℕ → List Units → Purpose
purpose_in_object p roots d o path =
    elim (is_attached path) [
      | true ↦ as_attached
      | false ↦ elim (for_its_target p d o path) [ true ↦ for_target | false ↦ by_path (meaning_given p roots d o path) ]
    ]

abbrev pub purpose_of : Program → Roots → ℕ → ℕ → List Units → Purpose
purpose_of p roots d o path =
    elim (is_type p d o no.ListElement) [ true ↦ for_role | false ↦ purpose_in_object p roots d o path ]
