-- ReadOnly, by rows and what their members are given for.
use Rattle.std.specs.Prelude.{Bool, true, false, not, ◌&&◌, [], Option, Some, None}
use Rattle.qml_base.specs.declared.load_cause.LoadCause.TheVariants as cause
use Rattle.qml_base.specs.declared.numbers.Place.{Place}
use Rattle.qml_syntax.specs.Nodes.{Table}
use Rattle.load_faults.specs.Faults.{Faults, fault_at}
use Rattle.load_faults.specs.Properties.{may_be_given}
use Rattle.document_members.specs.declared.member.Member.{Member}
use Rattle.document_members.specs.declared.member.Member.TheVariants as m
use Rattle.program_tables.specs.declared.building.UnitRow.{UnitRow}
use Rattle.property_faults.specs.declared.given.GivenFor.{GivenFor}
use Rattle.property_faults.specs.declared.given.GivenFor.TheVariants as g
use Rattle.property_faults.specs.Places.{object_place}
use Rattle.property_faults.specs.Unknown.{place_if}

-- whether nothing may be given for this
abbrev pub is_read_only : GivenFor → Bool
is_read_only g.Object = true
is_read_only (g.Property k a own) = not (may_be_given a own)
is_read_only _ = false

-- where a member is told: a value, or a child object that stands in no group
abbrev pub read_only_at : Table → Bool → Member → GivenFor → Option Place
read_only_at t inside (m.Given path v) x = place_if (is_read_only x) path.at
read_only_at t inside (m.Child o) x = place_if (not inside && is_read_only x) (object_place t o)
read_only_at t inside _ x = None

abbrev pub read_only_fault : Option Place → Faults
read_only_fault None = []
read_only_fault (Some at) = fault_at at cause.ReadOnly

abbrev pub read_only_row : Table → Bool → UnitRow → GivenFor → Faults
read_only_row t inside r given = read_only_fault (read_only_at t inside r.member given)
