-- DuplicateId and DuplicateName.
use Rattle.std.specs.Prelude.{ℕ, Bool, true, false, ◌&&◌, not, nat_eq, if◌then◌else◌, List, [], ◌∷◌, ◌++◌, map, Option, Some, None}
use Rattle.std.specs.Str.{bytes_eq}
use Rattle.std.specs.List.{flat_map, list_any}
use Rattle.qml_base.specs.declared.numbers.Place.{Place}
use Rattle.qml_base.specs.declared.load_cause.LoadCause.TheVariants as cause
use Rattle.qml_syntax.specs.Tree.{Units}
use Rattle.qml_types.specs.declared.kind.TypeNo.TheVariants as no
use Rattle.qml_types.specs.declared.kind.PropKind.{PropKind}
use Rattle.qml_types.specs.declared.kind.PropKind.TheVariants as kind
use Rattle.program_names.specs.Names.{is_in}
use Rattle.program_names.specs.Written.{WrittenMember, an_id, a_property, a_value, a_child, OwnedMember}
use Rattle.program_names.specs.Loaded.{Program, unit_at}
use Rattle.program_names.specs.Layers.{Named, NameMeaning, a_cell, is_type, meaning, type_names, own_names, DefaultProperty, to_property, to_children, to_component, default_of}
use Rattle.program_names.specs.Components.{Roots, Id, ids_written, root_of}
use Rattle.program_names.specs.PathMeanings.{Way, way_to, here, PathMeaning, a_property_of, children_of, meaning_of_path}
use Rattle.program_names.specs.ComponentRoots.{is_change}
use Rattle.load_faults.specs.Faults.{Faults, fault_if, each_object, Purpose, by_path, purpose_of}

-- ---- DuplicateId: an id is used twice in a component

abbrev pub same_id : Program → Roots → ℕ → Id → Id → Bool
same_id p roots d i j = bytes_eq i.name j.name && nat_eq (root_of p roots d i.object) (root_of p roots d j.object)

-- in the order of writing, over those that were seen
abbrev pub ids_twice : Program → Roots → ℕ → List Id → List Id → Faults
ids_twice p roots d seen [] = []
ids_twice p roots d seen (i ∷ rest) =
    fault_if (list_any (same_id p roots d i) seen) i.at cause.DuplicateId ++ ids_twice p roots d (i ∷ seen) rest

abbrev pub duplicate_ids : Program → Roots → ℕ → Faults
duplicate_ids p roots d = ids_twice p roots d [] (ids_written p d)

-- ---- DuplicateName, first: a name that the object's type or another member has. A property has also the name of the
-- signal of its changes.

abbrev pub names_again : List Units → List Named → Faults
names_again seen [] = []
names_again seen (n ∷ rest) = fault_if (is_in n.name seen) n.at cause.DuplicateName ++ names_again (n.name ∷ seen) rest

abbrev pub names_twice : Program → ℕ → ℕ → Faults
names_twice p d o = names_again (map (λ (n : Named). n.name) (type_names p d o)) (own_names p d o)

abbrev pub declared_twice : Program → ℕ → Faults
declared_twice p d = each_object p d (λ o w. names_twice p d o)

-- ---- second: a second id of one object, at the word `id`

abbrev pub ids_again : Bool → List WrittenMember → Faults
ids_again seen [] = []
ids_again seen (an_id word n at ∷ rest) = fault_if seen word cause.DuplicateName ++ ids_again true rest
ids_again seen (m ∷ rest) = ids_again seen rest

abbrev pub second_ids : Program → ℕ → Faults
second_ids p d = each_object p d (λ o w. ids_again false w.members)

-- ---- third: a second value of one property, at the later one in the text; aliases and groups lead to the same property

-- where a value goes: to the cell of a place of an object, or, without a place, among its children or into a Component
pub record Destination : Type 0 where
  pub to : Way
  pub cell : Option ℕ
  pub at : Place
  pub is_child : Bool
  pub many : Bool

abbrev pub destination : Way → Option ℕ → Place → Bool → Bool → Destination
destination to cell at is_child many = record { to = to; cell = cell; at = at; is_child = is_child; many = many }

abbrev pub is_list : PropKind → Bool
is_list (kind.List t) = true
is_list _ = false

abbrev pub destination_by : Place → Bool → PathMeaning → List Destination
destination_by at child (a_property_of way place k a own) = destination way (Some place) at child (is_list k) ∷ []
destination_by at child (children_of way) = destination way None at child true ∷ []
destination_by at child _ = []

abbrev pub declared_destination : ℕ → ℕ → Place → Option NameMeaning → List Destination
declared_destination d o at (Some (a_cell place k a)) = destination (way_to (here d o)) (Some place) at false false ∷ []
declared_destination d o at _ = []

-- the changes of a PropertyChanges are no values of its own
abbrev pub destination_of_value : Program → Roots → ℕ → ℕ → Place → List Units → Purpose → List Destination
destination_of_value p roots d o at path (by_path s) =
    if is_change p roots d o path then [] else destination_by at false s
destination_of_value p roots d o at path _ = []

abbrev pub destination_of_child : Program → Roots → ℕ → ℕ → Place → DefaultProperty → List Destination
destination_of_child p roots d o at (to_property n) =
    destination_by at true (meaning_of_path p roots (here d o) (n ∷ []))
destination_of_child p roots d o at to_children = destination (way_to (here d o)) None at true true ∷ []
destination_of_child p roots d o at to_component = destination (way_to (here d o)) None at true false ∷ []
destination_of_child p roots d o at _ = []

abbrev pub destinations_of_member : Program → Roots → ℕ → ℕ → WrittenMember → List Destination
destinations_of_member p roots d o (a_property q a k n at (Some v)) = declared_destination d o at (meaning p d o n)
destinations_of_member p roots d o (a_value at path v) =
    destination_of_value p roots d o at path (purpose_of p roots d o path)
destinations_of_member p roots d o (a_child at n) = destination_of_child p roots d o at (default_of p d o)
destinations_of_member p roots d o _ = []

abbrev pub destinations_of_row : Program → Roots → ℕ → OwnedMember → List Destination
destinations_of_row p roots d r = destinations_of_member p roots d r.object r.member

abbrev pub same_hops : List (ℕ × ℕ) → List (ℕ × ℕ) → Bool
same_hops [] [] = true
same_hops (a ∷ more) (b ∷ others) = nat_eq a.0 b.0 && nat_eq a.1 b.1 && same_hops more others
same_hops _ _ = false

abbrev pub same_place : Option ℕ → Option ℕ → Bool
same_place None None = true
same_place (Some a) (Some b) = nat_eq a b
same_place _ _ = false

abbrev pub same_cell : Destination → Destination → Bool
same_cell a b = nat_eq a.to.base b.to.base && same_hops a.to.hops b.to.hops && same_place a.cell b.cell

-- the child objects of one list property are one value
abbrev pub is_second : Destination → Destination → Bool
is_second a b = same_cell a b && not (a.is_child && b.is_child && a.many)

-- in the order of writing, over those that were seen
abbrev pub reached_twice : List Destination → List Destination → Faults
reached_twice seen [] = []
reached_twice seen (g ∷ rest) =
    fault_if (list_any (is_second g) seen) g.at cause.DuplicateName ++ reached_twice (g ∷ seen) rest

abbrev pub given_twice : Program → Roots → ℕ → Faults
given_twice p roots d = reached_twice [] (flat_map (destinations_of_row p roots d) (unit_at p d).rows)

-- ---- fourth: a second value for one role of a row

abbrev pub roles_again : List Units → List WrittenMember → Faults
roles_again seen [] = []
roles_again seen (a_value at (n ∷ []) v ∷ rest) =
    fault_if (is_in n seen) at cause.DuplicateName ++ roles_again (n ∷ seen) rest
roles_again seen (m ∷ rest) = roles_again seen rest

abbrev pub roles_twice : Program → ℕ → Faults
roles_twice p d = each_object p d (λ o w. if is_type p d o no.ListElement then roles_again [] w.members else [])

abbrev pub duplicate_names : Program → Roots → ℕ → Faults
duplicate_names p roots d = declared_twice p d ++ second_ids p d ++ given_twice p roots d ++ roles_twice p d
