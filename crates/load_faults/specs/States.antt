-- UnknownState and ExtendCycle: an `extend` that names no State of its list, or leads back.
use Rattle.std.specs.Prelude.{ℕ, zero, suc, Bool, true, false, ◌&&◌, ◌||◌, not, nat_eq, if◌then◌else◌, List, [], ◌∷◌, ◌++◌, map, length, slice_get, Option, Some, None, codes, decimal}
use Rattle.std.specs.Str.{bytes_eq}
use Rattle.std.specs.Option.{option_map, option_or, unwrap_or}
use Rattle.std.specs.List.{flat_map, list_any, filter}
use Rattle.qml_base.specs.declared.numbers.Place.{Place}
use Rattle.qml_base.specs.declared.load_cause.LoadCause.TheVariants as cause
use Rattle.qml_syntax.specs.Tree.{Units}
use Rattle.qml_syntax.specs.Depth.{place_of_stmt}
use Rattle.qml_value.specs.Texts.{text_of}
use Rattle.qml_types.specs.declared.kind.TypeNo.TheVariants as no
use Rattle.qml_types.specs.declared.kind.PropKind.{PropKind}
use Rattle.qml_types.specs.declared.kind.PropKind.TheVariants as kind
use Rattle.program_names.specs.Written.{WrittenObject, WrittenMember, a_property, a_value, a_child, WrittenValue, by_stmt, by_object, by_list}
use Rattle.program_names.specs.Literals.{literal_of}
use Rattle.program_names.specs.Loaded.{Program, unit_at, object_at, kind_named}
use Rattle.program_names.specs.Layers.{Layer, of_type, of_object, layers, is_type, DefaultProperty, to_property, default_of}
use Rattle.program_names.specs.Components.{Roots}
use Rattle.program_names.specs.PathMeanings.{here, PathMeaning, a_property_of, meaning_of_path}
use Rattle.program_names.specs.ComponentRoots.{meaning_given}
use Rattle.load_faults.specs.Faults.{Faults, fault_at, fault_if, each_object}

-- ---- lists of States

abbrev pub is_list_kind : PropKind → Bool
is_list_kind (kind.List t) = true
is_list_kind _ = false

abbrev pub is_list : PathMeaning → Bool
is_list (a_property_of way place k a own) = is_list_kind k
is_list _ = false

abbrev pub listed_by : Bool → WrittenValue → List ℕ
listed_by many (by_stmt s) = []
listed_by many (by_object n) = if many then n ∷ [] else []
listed_by many (by_list q ns) = ns

abbrev pub list_of_member : Program → Roots → ℕ → ℕ → WrittenMember → List ℕ
list_of_member p roots d o (a_property q a k n at (Some v)) = listed_by (is_list_kind (kind_named p d k)) v
list_of_member p roots d o (a_value at path v) = listed_by (is_list (meaning_given p roots d o path)) v
list_of_member p roots d o _ = []

abbrev pub children : List WrittenMember → List ℕ
children [] = []
children (a_child at n ∷ rest) = n ∷ children rest
children (m ∷ rest) = children rest

-- the child objects of a list property are one list
abbrev pub list_of_children : Program → Roots → ℕ → ℕ → List WrittenMember → DefaultProperty → List ℕ
list_of_children p roots d o members (to_property n) =
    if is_list (meaning_of_path p roots (here d o) (n ∷ [])) then children members else []
list_of_children p roots d o members _ = []

abbrev pub lists_in : Program → Roots → ℕ → ℕ → WrittenObject → List (List ℕ)
lists_in p roots d o w =
    list_of_children p roots d o w.members (default_of p d o) ∷ map (list_of_member p roots d o) w.members

abbrev pub lists_from : Program → Roots → ℕ → ℕ → List WrittenObject → List (List ℕ)
lists_from p roots d o [] = []
lists_from p roots d o (w ∷ rest) = lists_in p roots d o w ++ lists_from p roots d (suc o) rest

abbrev pub is_state : Program → ℕ → ℕ → Bool
is_state p d n = is_type p d n no.State

abbrev pub state_lists : Program → Roots → ℕ → List (List ℕ)
state_lists p roots d = map (filter (is_state p d)) (lists_from p roots d 0 (unit_at p d).objects)

-- ---- names

-- the literal that stands for a name among some members, with its place
abbrev pub literal_in : Units → List WrittenMember → Option (Place × Units)
literal_in name [] = None
literal_in name (a_value at (n ∷ []) (by_stmt s) ∷ rest) =
    if bytes_eq n name then option_map (λ v. (place_of_stmt s, text_of v)) (literal_of s) else literal_in name rest
literal_in name (m ∷ rest) = literal_in name rest

abbrev pub literal_of_layer : Program → Units → Layer → Option (Place × Units)
literal_of_layer p name (of_type t) = None
literal_of_layer p name (of_object d o) = literal_in name (object_at p d o).members

-- that of the object, else that of the last of its types' documents that gives one
abbrev pub last_literal : Program → Units → List Layer → Option (Place × Units)
last_literal p name [] = None
last_literal p name (layer ∷ rest) = option_or (last_literal p name rest) (literal_of_layer p name layer)

abbrev pub text_given : Option (Place × Units) → Option Units
text_given found = option_map (λ x. x.1) found

abbrev pub literal : Program → ℕ → ℕ → Units → Option Units
literal p d o name = text_given (last_literal p name (layers p d o))

-- a State without a name is `anonymousState` and its place, from 1, among those of its list that have no name
abbrev pub named_from : ℕ → List (Option Units) → List Units
named_from n [] = []
named_from n (Some name ∷ rest) = name ∷ named_from n rest
named_from n (None ∷ rest) = (codes "anonymousState" ++ decimal n) ∷ named_from (suc n) rest

abbrev pub names_of_states : Program → ℕ → List ℕ → List Units
names_of_states p d states = named_from 1 (map (λ o. literal p d o (codes "name")) states)

abbrev pub place_in : ℕ → List Units → Units → Option ℕ
place_in n [] name = None
place_in n (x ∷ rest) name = if bytes_eq x name then Some n else place_in (suc n) rest name

-- the place in the list of the State that one extends: the first of the name; the empty text extends none
abbrev pub next_in : List Units → Option Units → Option ℕ
next_in names None = None
next_in names (Some []) = None
next_in names (Some (c ∷ cs)) = place_in 0 names (c ∷ cs)

abbrev pub nexts : Program → ℕ → List ℕ → List (Option ℕ)
nexts p d states = map (λ o. next_in (names_of_states p d states) (literal p d o (codes "extend"))) states

abbrev pub next_at : List (Option ℕ) → ℕ → Option ℕ
next_at ns i = unwrap_or (slice_get ns i) None

abbrev pub comes_back : ℕ → List (Option ℕ) → ℕ → Option ℕ → Bool
comes_back zero ns i at = false
comes_back (suc f) ns i None = false
comes_back (suc f) ns i (Some j) = elim (nat_eq i j) [ true ↦ true | false ↦ comes_back f ns i (next_at ns j) ]

-- ---- the faults

-- what the object's own text gives; what its type's document gives has no place here
abbrev pub extend_of : Program → ℕ → ℕ → Option (Place × Units)
extend_of p d o = literal_in (codes "extend") (object_at p d o).members

abbrev pub fault_by_next : Place → List (Option ℕ) → ℕ → Option ℕ → Faults
fault_by_next at ns i None = fault_at at cause.UnknownState
fault_by_next at ns i (Some j) = fault_if (comes_back (length ns) ns i (Some j)) at cause.ExtendCycle

abbrev pub fault_by_name : Place → List (Option ℕ) → ℕ → Units → Faults
fault_by_name at ns i [] = []
fault_by_name at ns i (c ∷ cs) = fault_by_next at ns i (next_at ns i)

abbrev pub fault_of_extend : List (Option ℕ) → ℕ → Option (Place × Units) → Faults
fault_of_extend ns i None = []
fault_of_extend ns i (Some e) = fault_by_name e.0 ns i e.1

abbrev pub faults_from : Program → ℕ → List (Option ℕ) → ℕ → List ℕ → Faults
faults_from p d ns i [] = []
faults_from p d ns i (o ∷ rest) = fault_of_extend ns i (extend_of p d o) ++ faults_from p d ns (suc i) rest

abbrev pub faults_of_list : Program → ℕ → List ℕ → Faults
faults_of_list p d states = faults_from p d (nexts p d states) 0 states

-- a State outside a list extends none; the root of a document is left to its use
abbrev pub is_listed : List (List ℕ) → ℕ → Bool
is_listed lists o = list_any (list_any (nat_eq o)) lists

abbrev pub stands_alone : Program → Roots → ℕ → ℕ → Bool
stands_alone p roots d o = is_state p d o && not (nat_eq o 0 || is_listed (state_lists p roots d) o)

abbrev pub fault_alone : Program → Roots → ℕ → ℕ → Faults
fault_alone p roots d o = if stands_alone p roots d o then fault_of_extend [] 0 (extend_of p d o) else []

abbrev pub state_faults : Program → Roots → ℕ → Faults
state_faults p roots d =
    flat_map (faults_of_list p d) (state_lists p roots d) ++ each_object p d (λ o w. fault_alone p roots d o)
