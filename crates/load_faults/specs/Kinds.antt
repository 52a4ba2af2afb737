-- BadKind: a literal or an object of a kind that has no conversion to the property's, a ListElement elsewhere than in a
-- ListModel, a value of another kind than its role has, or an object for a handler.
use Rattle.std.specs.Prelude.{ℕ, Bool, true, false, ◌&&◌, ◌||◌, not, if◌then◌else◌, List, [], ◌∷◌, ◌++◌, Option, Some, None}
use Rattle.std.specs.Str.{bytes_eq}
use Rattle.std.specs.Option.{is_some}
use Rattle.std.specs.List.{flat_map, filter_map}
use Rattle.qml_base.specs.declared.numbers.Place.{Place}
use Rattle.qml_base.specs.declared.load_cause.LoadCause.TheVariants as cause
use Rattle.qml_syntax.specs.Tree.{Units}
use Rattle.qml_value.specs.declared.value.Kind.{Kind}
use Rattle.qml_value.specs.declared.value.Kind.TheVariants as value
use Rattle.qml_value.specs.Kinds.{kind_of}
use Rattle.qml_value.specs.declared.value.Value.{Value}
use Rattle.qml_types.specs.declared.kind.TypeNo.TheVariants as no
use Rattle.qml_types.specs.declared.kind.Access.{Access}
use Rattle.qml_types.specs.declared.kind.Access.TheVariants.{Id}
use Rattle.qml_types.specs.declared.kind.PropKind.{PropKind}
use Rattle.qml_types.specs.declared.kind.PropKind.TheVariants as kind
use Rattle.program_names.specs.Written.{WrittenObject, WrittenMember, a_property, a_value, a_child, WrittenValue, by_stmt, by_object, by_list}
use Rattle.program_names.specs.Literals.{literal_of, takes_literal}
use Rattle.program_names.specs.Loaded.{Program, object_at, kind_named}
use Rattle.program_names.specs.Layers.{Layer, of_type, of_object, layers, is_a, is_type, DefaultProperty, no_default, to_property, to_rows, default_of}
use Rattle.program_names.specs.Components.{IsRoot, Roots, is_root_at}
use Rattle.program_names.specs.PathMeanings.{here, PathMeaning, a_property_of, a_handler, children_of, meaning_of_path}
use Rattle.program_names.specs.ComponentRoots.{root_as, same_root}
use Rattle.load_faults.specs.Faults.{Faults, fault_at, fault_if, each_object, each_member, place_of_object, place_of_value, Purpose, as_attached, for_target, by_path, purpose_of}

-- ---- a value for a property of a kind

-- a Component takes every object, since one is made around what is none
abbrev pub takes_object : Program → ℕ → PropKind → ℕ → Bool
takes_object p d kind.Component n = true
takes_object p d kind.Var n = true
takes_object p d kind.Variant n = true
takes_object p d kind.Bool n = true
takes_object p d (kind.Object t) n = is_a p d n t
takes_object p d (kind.List t) n = is_a p d n t
takes_object p d _ n = false

abbrev pub bad_object : Program → ℕ → PropKind → ℕ → Faults
bad_object p d k n =
    fault_if (is_type p d n no.ListElement || not (takes_object p d k n)) (place_of_object p d n) cause.BadKind

abbrev pub takes_list : PropKind → Bool
takes_list (kind.List t) = true
takes_list kind.Var = true
takes_list kind.Variant = true
takes_list kind.Bool = true
takes_list _ = false

abbrev pub bad_literal : PropKind → Place → Option Value → Faults
bad_literal k at None = []
bad_literal k at (Some v) = fault_if (not (takes_literal k (kind_of v))) at cause.BadKind

abbrev pub bad_given : Program → ℕ → PropKind → WrittenValue → Faults
bad_given p d k (by_stmt s) = bad_literal k (place_of_value p d (by_stmt s)) (literal_of s)
bad_given p d k (by_object n) = bad_object p d k n
bad_given p d k (by_list at ns) = if takes_list k then flat_map (bad_object p d k) ns else fault_at at cause.BadKind

-- ---- a value for something else

abbrev pub bad_element : Program → ℕ → ℕ → Faults
bad_element p d n = fault_if (is_type p d n no.ListElement) (place_of_object p d n) cause.BadKind

-- for the children of an Item
abbrev pub bad_children : Program → ℕ → WrittenValue → Faults
bad_children p d (by_stmt s) = fault_at (place_of_value p d (by_stmt s)) cause.BadKind
bad_children p d (by_object n) = bad_element p d n
bad_children p d (by_list at ns) = flat_map (bad_element p d) ns

-- for a handler: every statement is a body
abbrev pub bad_body : Program → ℕ → WrittenValue → Faults
bad_body p d (by_stmt s) = []
bad_body p d v = fault_at (place_of_value p d v) cause.BadKind

-- the `target` of a PropertyChanges has causes of its own
abbrev pub bad_for : Program → ℕ → WrittenValue → PropKind → Access → Bool → Faults
bad_for p d v k Id true = []
bad_for p d v k a own = bad_given p d k v

abbrev pub bad_value : Program → ℕ → WrittenValue → Purpose → Faults
bad_value p d v as_attached = bad_body p d v
bad_value p d v for_target = bad_body p d v
bad_value p d v (by_path (a_handler names)) = bad_body p d v
bad_value p d v (by_path (children_of way)) = bad_children p d v
bad_value p d v (by_path (a_property_of way place k a own)) = bad_for p d v k a own
bad_value p d v _ = []

-- ---- a child object

abbrev pub bad_by_meaning : Program → ℕ → ℕ → PathMeaning → Faults
bad_by_meaning p d n (a_property_of way place k a own) = bad_object p d k n
bad_by_meaning p d n _ = []

abbrev pub bad_child : Program → Roots → ℕ → ℕ → ℕ → DefaultProperty → Faults
bad_child p roots d o n (to_property m) = bad_by_meaning p d n (meaning_of_path p roots (here d o) (m ∷ []))
bad_child p roots d o n to_rows = fault_if (not (is_type p d n no.ListElement)) (place_of_object p d n) cause.BadKind
bad_child p roots d o n no_default = []
bad_child p roots d o n _ = bad_element p d n

abbrev pub bad_member : Program → Roots → ℕ → ℕ → WrittenMember → Faults
bad_member p roots d o (a_property q a k n at (Some v)) = bad_given p d (kind_named p d k) v
bad_member p roots d o (a_value at path v) = bad_value p d v (purpose_of p roots d o path)
bad_member p roots d o (a_child at n) = bad_child p roots d o n (default_of p d o)
bad_member p roots d o _ = []

-- ---- the roles of the rows of a ListModel: the first value of a role says its kind

-- a value of a row: its role, its kind and its place; null has the kind of objects
pub record RoleValue : Type 0 where
  pub role : Units
  pub kind : Kind
  pub at : Place

abbrev pub role_kind : Kind → Kind
role_kind value.Null = value.Object
role_kind k = k

abbrev pub same_kind : Kind → Kind → Bool
same_kind value.Bool value.Bool = true
same_kind value.Num value.Num = true
same_kind value.Text value.Text = true
same_kind value.Object value.Object = true
same_kind _ _ = false

abbrev pub role_by : Units → Place → Option Value → Option RoleValue
role_by n at None = None
role_by n at (Some v) = Some (record { role = n; kind = role_kind (kind_of v); at = at })

abbrev pub role_in : Program → ℕ → WrittenMember → Option RoleValue
role_in p d (a_value q (n ∷ []) (by_stmt s)) = role_by n (place_of_value p d (by_stmt s)) (literal_of s)
role_in p d _ = None

abbrev pub roles_of_child : Program → ℕ → WrittenMember → List RoleValue
roles_of_child p d (a_child q n) =
    if is_type p d n no.ListElement then filter_map (role_in p d) (object_at p d n).members else []
roles_of_child p d _ = []

abbrev pub roles_of_layer : Program → Layer → List RoleValue
roles_of_layer p (of_type t) = []
roles_of_layer p (of_object d o) = flat_map (roles_of_child p d) (object_at p d o).members

abbrev pub first_kind : List RoleValue → Units → Kind → Kind
first_kind [] role k = k
first_kind (v ∷ rest) role k = if bytes_eq v.role role then v.kind else first_kind rest role k

abbrev pub bad_role : List RoleValue → RoleValue → Faults
bad_role all v = fault_if (not (same_kind v.kind (first_kind all v.role v.kind))) v.at cause.BadKind

-- over the rows of its types' documents and its own
abbrev pub bad_roles : Program → ℕ → ℕ → Faults
bad_roles p d o = flat_map (bad_role (flat_map (roles_of_layer p) (layers p d o))) (roles_of_layer p (of_object d o))

-- ---- an object of which it came out too late that a Component is made around it: the target of the alias that says so
-- stands in it

abbrev pub comes_late : IsRoot → IsRoot → Bool
comes_late found settled = is_some found && not (same_root found settled)

abbrev pub bad_root : Program → Roots → ℕ → ℕ → WrittenObject → Faults
bad_root p roots d o w =
    fault_if (comes_late (root_as p roots d o w.role) (is_root_at roots d o)) (place_of_object p d o) cause.BadKind

abbrev pub bad_inside : Program → Roots → ℕ → ℕ → WrittenObject → Faults
bad_inside p roots d o w = (if is_type p d o no.ListModel then bad_roles p d o else []) ++ bad_root p roots d o w

-- the root of a document is no ListElement
abbrev pub bad_kinds : Program → Roots → ℕ → Faults
bad_kinds p roots d =
    each_member p d (bad_member p roots d) ++ each_object p d (bad_inside p roots d) ++ bad_element p d 0
