-- UnknownProperty, by rows and what their members are given for.
use Rattle.std.specs.Prelude.{ℕ, ◌+◌, Bool, true, false, not, if◌then◌else◌, List, [], ◌∷◌, ◌++◌, length, Option, Some, None}
use Rattle.qml_base.specs.declared.load_cause.LoadCause.TheVariants as cause
use Rattle.qml_base.specs.declared.numbers.Place.{Place}
use Rattle.qml_syntax.specs.Tree.{Units}
use Rattle.qml_syntax.specs.Nodes.{Table}
use Rattle.qml_types.specs.declared.kind.TypeNo.TheVariants as no
use Rattle.qml_types.specs.declared.kind.TypeRef.TheVariants.{Builtin}
use Rattle.load_faults.specs.Faults.{Faults, fault_at}
use Rattle.document_members.specs.declared.member.Member.{Member}
use Rattle.document_members.specs.declared.member.Member.TheVariants as m
use Rattle.program_tables.specs.declared.building.UnitRow.{UnitRow}
use Rattle.program_tables.specs.declared.names.UnitNames.{UnitNames}
use Rattle.program_tables.specs.Types.{any_of, base_in}
use Rattle.property_faults.specs.declared.given.GivenFor.{GivenFor}
use Rattle.property_faults.specs.declared.given.GivenFor.TheVariants as g
use Rattle.property_faults.specs.Places.{object_place, first_place, place_in_group}

abbrev pub is_nothing : GivenFor → Bool
is_nothing g.Nothing = true
is_nothing _ = false

-- a group is one of an object
abbrev pub is_group_of : GivenFor → Bool
is_group_of g.Object = true
is_group_of g.WithoutTarget = true
is_group_of _ = false

abbrev pub takes_child : GivenFor → Bool
takes_child (g.Property k a own) = true
takes_child g.Object = true
takes_child g.WithoutTarget = true
takes_child g.Taken = true
takes_child _ = false

abbrev pub place_if : Bool → Place → Option Place
place_if told at = if told then Some at else None

-- a value under one name, in no group
abbrev pub is_single : List Units → Bool
is_single [] = true
is_single (n ∷ rest) = false

abbrev pub is_role : Bool → Member → Bool
is_role true x = false
is_role false (m.Given path v) = is_single path.rest.items
is_role false _ = false

abbrev pub unknown_in_element : Table → Bool → Member → Option Place
unknown_in_element t inside x =
    if is_role inside x then None else Some (if inside then place_in_group t x else first_place t x)

abbrev pub unknown_outside : Table → Member → GivenFor → Option Place
unknown_outside t (m.Given path v) x = place_if (is_nothing x) path.at
unknown_outside t (m.Group path) x = place_if (not (is_group_of x)) path.at
unknown_outside t (m.Child o) x = place_if (not (takes_child x)) (object_place t o)
unknown_outside t _ x = None

abbrev pub unknown_in_group : Table → Member → GivenFor → Option Place
unknown_in_group t (m.Given path v) x = place_if (is_nothing x) path.at
unknown_in_group t (m.Group path) x = place_if (not (is_group_of x)) path.at
unknown_in_group t other x = Some (place_in_group t other)

abbrev pub unknown_at : Table → Bool → Bool → Member → GivenFor → Option Place
unknown_at t element inside x given =
    if element
    then unknown_in_element t inside x
    else if inside then unknown_in_group t x given else unknown_outside t x given

abbrev pub unknown_fault : Option Place → Faults
unknown_fault None = []
unknown_fault (Some at) = fault_at at cause.UnknownProperty

abbrev pub unknown_row : List UnitNames → ℕ → Table → Bool → UnitRow → GivenFor → Faults
unknown_row us d t inside r given =
    unknown_fault
    (unknown_at t (any_of (length us + 1) us (Builtin no.ListElement) (base_in us d r.row.object)) inside r.member given)

-- row after row, each with whether it stands in a group and what its member is given for
abbrev pub by_rows : (Bool → UnitRow → GivenFor → Faults) → List UnitRow → List Bool → List GivenFor → Faults
by_rows f [] insides given = []
by_rows f (r ∷ rest) [] [] = f false r g.Nothing ++ by_rows f rest [] []
by_rows f (r ∷ rest) [] (x ∷ xs) = f false r x ++ by_rows f rest [] xs
by_rows f (r ∷ rest) (b ∷ bs) [] = f b r g.Nothing ++ by_rows f rest bs []
by_rows f (r ∷ rest) (b ∷ bs) (x ∷ xs) = f b r x ++ by_rows f rest bs xs
