-- The rows that the searches go over, and the faults that they give.
use Rattle.std.specs.Prelude.{ℕ, suc, Bool, true, false, ◌&&◌, ◌||◌, not, nat_eq, if◌then◌else◌, List, [], ◌∷◌, ◌++◌, map}
use Rattle.std.specs.Str.{bytes_eq}
use Rattle.std.specs.List.{flat_map, list_any}
use Rattle.qml_base.specs.declared.load_cause.LoadCause.{LoadCause}
use Rattle.qml_base.specs.declared.load_cause.LoadCause.TheVariants as cause
use Rattle.qml_base.specs.declared.numbers.Place.{Place}
use Rattle.qml_syntax.specs.Tree.{Units}
use Rattle.qml_types.specs.declared.kind.TypeNo.TheVariants as no
use Rattle.qml_types.specs.declared.kind.Access.TheVariants.{Literal, ReadOnly}
use Rattle.program_names.specs.Names.{is_in}
use Rattle.program_names.specs.Written.{WrittenObject, WrittenMember, an_id, a_value, a_child}
use Rattle.program_names.specs.Loaded.{Program, unit_at}
use Rattle.program_names.specs.Layers.{Named, type_names, own_names, is_type, DefaultProperty, to_property, default_of}
use Rattle.program_names.specs.PathMeanings.{here, PathMeaning, a_property_of, an_object_of, meaning_of_path}
use Rattle.program_names.specs.Components.{Roots, Id, ids_written, root_of}
use Rattle.load_faults.specs.Faults.{Faults, fault_if, place_of_value, Purpose, for_role, by_path, purpose_of}
use Rattle.load_faults.specs.Properties.{may_be_given, is_literal_access, is_literal_value, read_only_values, not_literals}
use Rattle.load_passes.specs.declared.repeated.NameRow.{NameRow}
use Rattle.load_passes.specs.declared.values.ValueRow.{ValueRow}

-- ---- names

abbrev pub same_name : NameRow → NameRow → Bool
same_name a b = bytes_eq a.name b.name && nat_eq a.owner b.owner

-- the names that are used again, over those that were seen, and those that are taken
abbrev pub repeated : LoadCause → List NameRow → List NameRow → Faults
repeated why seen [] = []
repeated why seen (r ∷ rest) = fault_if (list_any (same_name r) seen || r.taken) r.at why ++ repeated why (r ∷ seen) rest

-- an id belongs to the component of its object
abbrev pub id_row : Program → Roots → ℕ → Id → NameRow
id_row p roots d i = record { name = i.name; owner = root_of p roots d i.object; at = i.at; taken = false }

-- the ids of a document
abbrev pub id_faults : Program → Roots → ℕ → Faults
id_faults p roots d = repeated cause.DuplicateId [] (map (id_row p roots d) (ids_written p d))

-- ---- names that a single object may use once

-- the names that an object uses, each with its place, as rows of the object
abbrev pub owner_row : ℕ → Units × Place → NameRow
owner_row o x = record { name = x.0; owner = o; at = x.1; taken = false }

abbrev pub rows_of_objects : (ℕ → WrittenObject → List (Units × Place)) → ℕ → List WrittenObject → List NameRow
rows_of_objects f o [] = []
rows_of_objects f o (w ∷ rest) = map (owner_row o) (f o w) ++ rows_of_objects f (suc o) rest

-- a name that an object declares, beside the names that it has by its type
abbrev pub declared_row : Program → ℕ → ℕ → Named → NameRow
declared_row p d o n =
    record { name = n.name; owner = o; at = n.at; taken = is_in n.name (map (λ (x : Named). x.name) (type_names p d o)) }

abbrev pub declared_rows_from : Program → ℕ → ℕ → List WrittenObject → List NameRow
declared_rows_from p d o [] = []
declared_rows_from p d o (w ∷ rest) = map (declared_row p d o) (own_names p d o) ++ declared_rows_from p d (suc o) rest

abbrev pub declared_rows : Program → ℕ → List NameRow
declared_rows p d = declared_rows_from p d 0 (unit_at p d).objects

-- an id of the object, whatever its name, at the word `id`
abbrev pub id_word : WrittenMember → List (Units × Place)
id_word (an_id word n at) = ([], word) ∷ []
id_word _ = []

abbrev pub second_id_rows : Program → ℕ → List NameRow
second_id_rows p d = rows_of_objects (λ o w. flat_map id_word w.members) 0 (unit_at p d).objects

-- a value of a role
abbrev pub role_name : WrittenMember → List (Units × Place)
role_name (a_value at (n ∷ []) v) = (n, at) ∷ []
role_name _ = []

abbrev pub roles_in : Program → ℕ → ℕ → WrittenObject → List (Units × Place)
roles_in p d o w = if is_type p d o no.ListElement then flat_map role_name w.members else []

abbrev pub role_rows : Program → ℕ → List NameRow
role_rows p d = rows_of_objects (roles_in p d) 0 (unit_at p d).objects

-- ---- values

-- a value for what may not be given
abbrev pub read_only : ValueRow → Faults
read_only r = fault_if (not (may_be_given r.access r.own)) r.at cause.ReadOnly

-- a value that has to be a literal
abbrev pub not_literal : ValueRow → Faults
not_literal r = fault_if ((r.own && is_literal_access r.access) && not r.is_literal) r.value_at cause.NotLiteral

-- cause after cause
abbrev pub value_faults : List ValueRow → Faults
value_faults rows = flat_map read_only rows ++ flat_map not_literal rows

-- the row of a value under a path, and of a child: a whole object may not be given
abbrev pub row_by_meaning : Place → Place → Bool → PathMeaning → List ValueRow
row_by_meaning at value_at literal (an_object_of s) =
    record { at = at; value_at = value_at; access = ReadOnly; own = true; is_literal = literal } ∷ []
row_by_meaning at value_at literal (a_property_of way place k a own) =
    record { at = at; value_at = value_at; access = a; own = own; is_literal = literal } ∷ []
row_by_meaning at value_at literal _ = []

-- the value of a role is one for a literal property
abbrev pub row_by_purpose : Place → Place → Bool → Purpose → List ValueRow
row_by_purpose at value_at literal for_role =
    record { at = at; value_at = value_at; access = Literal; own = true; is_literal = literal } ∷ []
row_by_purpose at value_at literal (by_path s) = row_by_meaning at value_at literal s
row_by_purpose at value_at literal _ = []

-- a child is asked for no literal
abbrev pub row_of_child : Program → Roots → ℕ → ℕ → Place → DefaultProperty → List ValueRow
row_of_child p roots d o at (to_property n) = row_by_meaning at at true (meaning_of_path p roots (here d o) (n ∷ []))
row_of_child p roots d o at _ = []

abbrev pub rows_of_member : Program → Roots → ℕ → ℕ → WrittenMember → List ValueRow
rows_of_member p roots d o (a_value at path v) =
    row_by_purpose at (place_of_value p d v) (is_literal_value v) (purpose_of p roots d o path)
rows_of_member p roots d o (a_child at n) = row_of_child p roots d o at (default_of p d o)
rows_of_member p roots d o _ = []

abbrev pub rows_from : Program → Roots → ℕ → ℕ → List WrittenObject → List ValueRow
rows_from p roots d o [] = []
rows_from p roots d o (w ∷ rest) = flat_map (rows_of_member p roots d o) w.members ++ rows_from p roots d (suc o) rest

-- the values of a document
abbrev pub value_rows : Program → Roots → ℕ → List ValueRow
value_rows p roots d = rows_from p roots d 0 (unit_at p d).objects

-- those that the definitions of the two causes give
abbrev pub faults_by_cause : Program → Roots → ℕ → Faults
faults_by_cause p roots d = read_only_values p roots d ++ not_literals p roots d
