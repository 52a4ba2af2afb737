-- NotLiteral, by rows and what their members are given for.
use Rattle.std.specs.Prelude.{ℕ, Bool, true, false, ◌&&◌, if◌then◌else◌, List, [], ◌∷◌, ◌++◌, Option, Some, None}
use Rattle.qml_base.specs.declared.load_cause.LoadCause.TheVariants as cause
use Rattle.qml_base.specs.declared.numbers.Place.{Place}
use Rattle.qml_syntax.specs.Nodes.{Table}
use Rattle.qml_syntax.specs.Places.{part_at}
use Rattle.qml_value.specs.declared.value.Kind.{Kind}
use Rattle.load_faults.specs.Faults.{Faults, fault_at}
use Rattle.load_faults.specs.Properties.{is_literal_access}
use Rattle.document_rows.specs.declared.rows.ObjectRow.{ObjectRow}
use Rattle.document_members.specs.declared.member.Member.{Member}
use Rattle.document_members.specs.declared.member.Member.TheVariants as m
use Rattle.program_tables.specs.declared.building.UnitRow.{UnitRow}
use Rattle.value_reading.specs.LiteralKinds.{literal_kind}
use Rattle.value_places.specs.Places.{value_place}
use Rattle.property_faults.specs.declared.given.GivenFor.{GivenFor}
use Rattle.property_faults.specs.declared.given.GivenFor.TheVariants as g

-- whether what is given for this has to be a literal
abbrev pub wants_literal : GivenFor → Bool
wants_literal g.Role = true
wants_literal (g.Property k a own) = own && is_literal_access a
wants_literal _ = false

-- the place of what is no literal of some kind
abbrev pub place_unless : Option Kind → Place → Option Place
place_unless (Some k) at = None
place_unless None at = Some at

-- where the value at a place is told, the first object in which has this number
abbrev pub not_literal_value : Table → List ObjectRow → ℕ → ℕ → GivenFor → Option Place
not_literal_value t objects first at x =
    if wants_literal x then place_unless (literal_kind (part_at t at)) (value_place t objects first at) else None

abbrev pub not_literal_at : Table → List ObjectRow → ℕ → Member → GivenFor → Option Place
not_literal_at t objects first (m.Given path v) x = not_literal_value t objects first v x
not_literal_at t objects first _ x = None

abbrev pub not_literal_fault : Option Place → Faults
not_literal_fault None = []
not_literal_fault (Some at) = fault_at at cause.NotLiteral

abbrev pub not_literal_row : Table → List ObjectRow → UnitRow → GivenFor → Faults
not_literal_row t objects r given = not_literal_fault (not_literal_at t objects r.row.first r.member given)

-- row after row, each with what its member is given for
abbrev pub by_given : (UnitRow → GivenFor → Faults) → List UnitRow → List GivenFor → Faults
by_given f [] given = []
by_given f (r ∷ rest) [] = f r g.Nothing ++ by_given f rest []
by_given f (r ∷ rest) (x ∷ xs) = f r x ++ by_given f rest xs
