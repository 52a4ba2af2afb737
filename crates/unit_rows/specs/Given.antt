-- What the members of a document's objects give, and for which cells.
use Rattle.std.specs.Prelude.{ℕ, Bool, true, false, not, ◌&&◌, nat_eq, unsigned_abs, if◌then◌else◌, List, [], ◌∷◌, map, slice_get, reverse, codes, Option, Some, None}
use Rattle.std.specs.Str.{bytes_eq}
use Rattle.std.specs.Option.{option_map, unwrap_or}
use Rattle.qml_syntax.specs.Tree.{Units, expr, name}
use Rattle.qml_value.specs.declared.value.Value.{Value, Null, Bool as Truth, Num, Text}
use Rattle.qml_value.specs.Texts.{text_of}
use Rattle.qml_types.specs.declared.kind.TypeNo.{TypeNo}
use Rattle.qml_types.specs.declared.kind.TypeNo.TheVariants as no
use Rattle.qml_types.specs.declared.kind.TypeRef.{TypeRef}
use Rattle.qml_types.specs.declared.kind.TypeRef.TheVariants.{Builtin}
use Rattle.qml_types.specs.declared.kind.PropKind.{PropKind}
use Rattle.qml_types.specs.declared.kind.PropKind.TheVariants as kind
use Rattle.qml_types.specs.Table.{TypeCell, cells_of}
use Rattle.program_names.specs.Written.{WrittenMember, a_property, a_value, a_child, WrittenValue, by_stmt, by_object, by_list}
use Rattle.program_names.specs.Literals.{literal_of}
use Rattle.program_names.specs.Loaded.{Program}
use Rattle.program_names.specs.Layers.{types, is_type, DefaultProperty, to_property, default_of}
use Rattle.program_names.specs.Components.{Roots}
use Rattle.program_names.specs.PathMeanings.{Way, way_to, here, PathMeaning, a_property_of, meaning_of_path}
use Rattle.program_names.specs.ComponentRoots.{is_change, meaning_given}
use Rattle.unit_rows.specs.Rows.{GivenValue, a_literal, a_body, an_object, some_objects, an_id, ValueRow, ChangeRow}
use Rattle.unit_rows.specs.Bodies.{NumberedMember}

-- ---- literals

abbrev is_true_literal : Value → Bool
is_true_literal Null = false
is_true_literal (Truth b) = b
is_true_literal (Num z) = not (nat_eq (unsigned_abs z) 0)
is_true_literal (Text []) = false
is_true_literal v = true

-- a literal as a value of a kind that takes it
abbrev pub as_kind : PropKind → Value → Value
as_kind kind.String v = Text (text_of v)
as_kind kind.Url v = Text (text_of v)
as_kind kind.Color v = Text (text_of v)
as_kind kind.Bool v = Truth (is_true_literal v)
as_kind k v = v

abbrev by_literal : PropKind → ℕ → Option Value → GivenValue
by_literal k body None = a_body body
by_literal k body (Some v) = a_literal (as_kind k v)

-- an object is true for a bool, as a list of objects is
abbrev by_objects : PropKind → List ℕ → GivenValue
by_objects kind.Bool os = a_literal (Truth true)
by_objects k os = some_objects os

abbrev by_one : PropKind → ℕ → GivenValue
by_one kind.Bool o = a_literal (Truth true)
by_one (kind.List t) o = some_objects (o ∷ [])
by_one k o = an_object o

-- what a value gives to a property of a kind
abbrev pub given_to : PropKind → ℕ → WrittenValue → GivenValue
given_to k body (by_stmt s) = by_literal k body (literal_of s)
given_to k body (by_object o) = by_one k o
given_to k body (by_list at os) = by_objects k os

-- ---- cells

abbrev pub builtin_among : List TypeRef → TypeNo
builtin_among [] = no.QtObject
builtin_among (Builtin t ∷ rest) = t
builtin_among (t ∷ rest) = builtin_among rest

-- the cell to which goes what is given for the cell of a place: for an Item's `visible` and `enabled` the hidden ones
abbrev pub cell_given : TypeNo → ℕ → ℕ
cell_given t place = unwrap_or (option_map (λ (cell : TypeCell). cell.goes_to) (slice_get (cells_of t) place)) place

-- the object at the end of a way: its document and its number there
abbrev end_of_hops : ℕ → Way → List (ℕ × ℕ) → ℕ × ℕ
end_of_hops d w [] = (d, w.base)
end_of_hops d w (hop ∷ rest) = hop

abbrev end_of_way : ℕ → Way → ℕ × ℕ
end_of_way d w = end_of_hops d w (reverse w.hops)

abbrev builtin_at : Program → ℕ × ℕ → TypeNo
builtin_at p at = builtin_among (types p (at.0) (at.1))

abbrev value_row : Program → ℕ → Way → ℕ → GivenValue → ValueRow
value_row p d w place v = record { to = w; place = cell_given (builtin_at p (end_of_way d w)) place; value = v }

abbrev value_by_meaning : Program → ℕ → ℕ → WrittenValue → PathMeaning → List ValueRow
value_by_meaning p d body v (a_property_of w place k a own) = value_row p d w place (given_to k body v) ∷ []
value_by_meaning p d body v _ = []

-- ---- children

abbrev pub child_of : NumberedMember → Option ℕ
child_of r = elim (r.member) as (λ _. Option ℕ) [ a_child at o ↦ Some o | _ ↦ None ]

-- the child objects for a property: those of a list are one value, given with the first of them
abbrev by_children : Program → ℕ → ℕ → List ℕ → PathMeaning → List ValueRow
by_children p d o [] m = []
by_children p d o (first ∷ rest) (a_property_of w place (kind.List t) a own) =
    if nat_eq o first then value_row p d w place (some_objects (first ∷ rest)) ∷ [] else []
by_children p d o children (a_property_of w place k a own) = value_row p d w place (by_one k o) ∷ []
by_children p d o children _ = []

abbrev value_of_child : Program → Roots → ℕ → ℕ → ℕ → List ℕ → DefaultProperty → List ValueRow
value_of_child p roots d o child children (to_property n) =
    by_children p d child children (meaning_of_path p roots (here d o) (n ∷ []))
value_of_child p roots d o child children _ = []

-- ---- values

abbrev is_target : List Units → Bool
is_target (n ∷ []) = bytes_eq n (codes "target")
is_target _ = false

abbrev ids_of_target : WrittenValue → List Units
ids_of_target (by_stmt (expr (name n at) c)) = n ∷ []
ids_of_target _ = []

abbrev target_row : ℕ → ℕ → Units → ValueRow
target_row d o n = record { to = way_to (here d o); place = 1; value = an_id n }

-- what is given under a path, but changes of a PropertyChanges; its target is an id
abbrev value_of_path : Program → Roots → ℕ → ℕ → ℕ → List Units → WrittenValue → List ValueRow
value_of_path p roots d o body path v =
    elim (is_type p d o no.PropertyChanges && is_target path) [
      | true ↦ map (target_row d o) (ids_of_target v)
      | false ↦ elim (is_change p roots d o path) [
        | true ↦ []
        | false ↦ value_by_meaning p d body v (meaning_of_path p roots (here d o) path)
      ]
    ]

abbrev value_of_declaration : Program → Roots → ℕ → ℕ → ℕ → Units → Option WrittenValue → List ValueRow
value_of_declaration p roots d o body n None = []
value_of_declaration p roots d o body n (Some v) = value_by_meaning p d body v (meaning_of_path p roots (here d o) (n ∷ []))

-- what a member gives; `children` are those of its object
abbrev pub values_of : Program → Roots → ℕ → List ℕ → NumberedMember → List ValueRow
values_of p roots d children r = elim (r.member) as (λ _. List ValueRow) [
  | a_property q a k n at v ↦ value_of_declaration p roots d r.object r.body n v
  | a_value at path v ↦ value_of_path p roots d r.object r.body path v
  | a_child at o ↦ value_of_child p roots d r.object o children (default_of p d r.object)
  | _ ↦ []
]

-- ---- changes of a PropertyChanges

abbrev change_by_meaning : List Units → ℕ → WrittenValue → PathMeaning → List ChangeRow
change_by_meaning path body v (a_property_of w place k a own) = record { path = path; value = given_to k body v } ∷ []
change_by_meaning path body v _ = []

abbrev change_of_path : Program → Roots → ℕ → ℕ → ℕ → List Units → WrittenValue → List ChangeRow
change_of_path p roots d o body path v =
    elim (is_change p roots d o path) [
      | true ↦ change_by_meaning path body v (meaning_given p roots d o path)
      | false ↦ []
    ]

abbrev pub changes_of : Program → Roots → ℕ → NumberedMember → List ChangeRow
changes_of p roots d r = elim (r.member) as (λ _. List ChangeRow) [
  | a_value at path v ↦ change_of_path p roots d r.object r.body path v
  | _ ↦ []
]
