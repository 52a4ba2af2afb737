-- UnknownProperty, ReadOnly and NotLiteral.
use Rattle.std.specs.Prelude.{ℕ, Bool, true, false, ◌&&◌, not, if◌then◌else◌, [], ◌∷◌}
use Rattle.qml_base.specs.declared.numbers.Place.{Place}
use Rattle.qml_base.specs.declared.load_cause.LoadCause.TheVariants as cause
use Rattle.qml_types.specs.declared.kind.TypeNo.TheVariants as no
use Rattle.qml_types.specs.declared.kind.Access.{Access}
use Rattle.qml_types.specs.declared.kind.Access.TheVariants.{Writable, Literal, Id}
use Rattle.program_names.specs.Written.{WrittenMember, an_id, a_property, an_alias, a_signal, a_function, a_value, a_group, a_child, a_stray, WrittenValue, by_stmt}
use Rattle.program_names.specs.Literals.{is_literal}
use Rattle.program_names.specs.Loaded.{Program}
use Rattle.program_names.specs.Layers.{is_type, DefaultProperty, no_default, to_property, default_of}
use Rattle.program_names.specs.Components.{Roots}
use Rattle.program_names.specs.PathMeanings.{here, PathMeaning, a_property_of, an_object_of, no_meaning, without_target, meaning_of_path}
use Rattle.program_names.specs.ComponentRoots.{meaning_given}
use Rattle.load_faults.specs.Faults.{Faults, fault_at, fault_if, each_member, place_of_value, Purpose, for_role, by_path, purpose_of}

-- ---- UnknownProperty: a name, handler, group or default property that the object hasn't

abbrev pub unknown_meaning : Place → PathMeaning → Faults
unknown_meaning at no_meaning = fault_at at cause.UnknownProperty
unknown_meaning at _ = []

abbrev pub unknown_value : Place → Purpose → Faults
unknown_value at (by_path s) = unknown_meaning at s
unknown_value at _ = []

-- a group is one of an object
abbrev pub unknown_group : Place → PathMeaning → Faults
unknown_group at (an_object_of s) = []
unknown_group at without_target = []
unknown_group at _ = fault_at at cause.UnknownProperty

abbrev pub unknown_default : Place → PathMeaning → Faults
unknown_default at (a_property_of way place k a own) = []
unknown_default at (an_object_of s) = []
unknown_default at without_target = []
unknown_default at _ = fault_at at cause.UnknownProperty

abbrev pub unknown_child : Program → Roots → ℕ → ℕ → Place → DefaultProperty → Faults
unknown_child p roots d o at no_default = fault_at at cause.UnknownProperty
unknown_child p roots d o at (to_property n) = unknown_default at (meaning_of_path p roots (here d o) (n ∷ []))
unknown_child p roots d o at _ = []

abbrev pub unknown_member : Program → Roots → ℕ → ℕ → WrittenMember → Faults
unknown_member p roots d o (a_value at path v) = unknown_value at (purpose_of p roots d o path)
unknown_member p roots d o (a_group at path) = unknown_group at (meaning_given p roots d o path)
unknown_member p roots d o (a_child at n) = unknown_child p roots d o at (default_of p d o)
unknown_member p roots d o (a_stray at) = fault_at at cause.UnknownProperty
unknown_member p roots d o _ = []

-- in a ListElement stand values under one name alone
abbrev pub unknown_in_row : WrittenMember → Faults
unknown_in_row (an_id at n q) = fault_at at cause.UnknownProperty
unknown_in_row (a_property at a k n q v) = fault_at at cause.UnknownProperty
unknown_in_row (an_alias at def n q target t) = fault_at at cause.UnknownProperty
unknown_in_row (a_signal at n q names) = fault_at at cause.UnknownProperty
unknown_in_row (a_function at f n q) = fault_at at cause.UnknownProperty
unknown_in_row (a_value at (n ∷ []) v) = []
unknown_in_row (a_value at path v) = fault_at at cause.UnknownProperty
unknown_in_row (a_group at path) = fault_at at cause.UnknownProperty
unknown_in_row (a_child at n) = fault_at at cause.UnknownProperty
unknown_in_row (a_stray at) = fault_at at cause.UnknownProperty

abbrev pub unknown_properties : Program → Roots → ℕ → Faults
unknown_properties p roots d =
    each_member p d (λ o m. if is_type p d o no.ListElement then unknown_in_row m else unknown_member p roots d o m)

-- ---- ReadOnly: a value for a readonly property outside its declaration, or for a whole object. What an object gives to
-- its own literal property or to its own `target` isn't such a value.

abbrev pub may_be_given : Access → Bool → Bool
may_be_given Writable own = true
may_be_given Literal own = own
may_be_given Id own = own
may_be_given _ own = false

abbrev pub read_only_by : Place → PathMeaning → Faults
read_only_by at (an_object_of s) = fault_at at cause.ReadOnly
read_only_by at (a_property_of way place k a own) = fault_if (not (may_be_given a own)) at cause.ReadOnly
read_only_by at _ = []

abbrev pub read_only_value : Place → Purpose → Faults
read_only_value at (by_path s) = read_only_by at s
read_only_value at _ = []

abbrev pub read_only_child : Program → Roots → ℕ → ℕ → Place → DefaultProperty → Faults
read_only_child p roots d o at (to_property n) = read_only_by at (meaning_of_path p roots (here d o) (n ∷ []))
read_only_child p roots d o at _ = []

abbrev pub read_only_member : Program → Roots → ℕ → ℕ → WrittenMember → Faults
read_only_member p roots d o (a_value at path v) = read_only_value at (purpose_of p roots d o path)
read_only_member p roots d o (a_child at n) = read_only_child p roots d o at (default_of p d o)
read_only_member p roots d o _ = []

abbrev pub read_only_values : Program → Roots → ℕ → Faults
read_only_values p roots d = each_member p d (read_only_member p roots d)

-- ---- NotLiteral: what has to be a literal and isn't

abbrev pub is_literal_value : WrittenValue → Bool
is_literal_value (by_stmt s) = is_literal s
is_literal_value _ = false

abbrev pub is_literal_access : Access → Bool
is_literal_access Literal = true
is_literal_access _ = false

abbrev pub wants_literal : Purpose → Bool
wants_literal for_role = true
wants_literal (by_path (a_property_of way place k a own)) = own && is_literal_access a
wants_literal _ = false

abbrev pub not_literal_member : Program → Roots → ℕ → ℕ → WrittenMember → Faults
not_literal_member p roots d o (a_value at path v) =
    fault_if (wants_literal (purpose_of p roots d o path) && not (is_literal_value v)) (place_of_value p d v) cause.NotLiteral
not_literal_member p roots d o _ = []

abbrev pub not_literals : Program → Roots → ℕ → Faults
not_literals p roots d = each_member p d (not_literal_member p roots d)
