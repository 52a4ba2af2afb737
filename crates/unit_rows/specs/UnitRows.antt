-- The rows of a document or script.
use Rattle.std.specs.Prelude.{ℕ, suc, Bool, true, false, not, ◌&&◌, ◌||◌, nat_eq, if◌then◌else◌, List, [], ◌∷◌, ◌++◌, map, reverse, codes, Option, Some, None}
use Rattle.std.specs.Option.{option_map}
use Rattle.std.specs.List.{flat_map, filter, filter_map}
use Rattle.qml_syntax.specs.Tree.{Units, Expr, Stmts, expr, auto, Function, function, Import, import_module, import_text, TypeName, own_type, type_of}
use Rattle.qml_value.specs.declared.value.Value.{Value}
use Rattle.qml_types.specs.declared.kind.TypeNo.TheVariants as no
use Rattle.program_names.specs.Paths.{joined_to, directory_of}
use Rattle.program_names.specs.Utf8.{utf8_of}
use Rattle.program_names.specs.Types.{is_script_text}
use Rattle.program_names.specs.Literals.{literal_of}
use Rattle.program_names.specs.Written.{WrittenObject, WrittenMember, a_property, a_value, WrittenValue, by_stmt, WrittenAs, as_root, as_child, as_value}
use Rattle.program_names.specs.Loaded.{Program, Unit, unit_at, object_at, type_of_object, kind_named, number_of}
use Rattle.program_names.specs.Layers.{is_type, access_of, DefaultProperty, to_children, to_component, default_of}
use Rattle.program_names.specs.Components.{IsRoot, Roots, is_root_at, owner, root_of, enclosing, Id, ids_in}
use Rattle.program_names.specs.PathMeanings.{PathMeaning, children_of}
use Rattle.program_names.specs.ComponentRoots.{meaning_given}
use Rattle.unit_rows.specs.Rows.{CellRow, ObjectRow, ComponentRow, of_statement, of_statements, UnitRows}
use Rattle.unit_rows.specs.Bindings.{BindingFunction, in_all}
use Rattle.unit_rows.specs.Bodies.{NumberedMember, numbered, of_object, bodies_of, places_from, bindings_of}
use Rattle.unit_rows.specs.Given.{child_of, values_of, changes_of}
use Rattle.unit_rows.specs.NamesOfObjects.{own_rows, handlers_of}

-- ---- objects

abbrev shown_of : TypeName → Units
shown_of (own_type n at) = n
shown_of (type_of q at n) = q ++ codes "." ++ n

abbrev goes_to_children : DefaultProperty → Bool
goes_to_children to_children = true
goes_to_children _ = false

abbrev goes_to_component : DefaultProperty → Bool
goes_to_component to_component = true
goes_to_component _ = false

abbrev are_children : PathMeaning → Bool
are_children (children_of w) = true
are_children _ = false

abbrev is_written_child : Program → Roots → ℕ → WrittenAs → Bool
is_written_child p roots d as_root = false
is_written_child p roots d (as_child w) = goes_to_children (default_of p d w)
is_written_child p roots d (as_value w path) = are_children (meaning_given p roots d w path)

abbrev is_in_component : Program → ℕ → WrittenAs → Bool
is_in_component p d (as_child w) = goes_to_component (default_of p d w)
is_in_component p d _ = false

abbrev is_root : IsRoot → Bool
is_root (Some b) = b
is_root None = false

-- whether a Component is made around an object
abbrev is_held : Program → Roots → ℕ → ℕ → Bool
is_held p roots d o = is_root (is_root_at roots d o) && not (is_in_component p d (object_at p d o).role)

abbrev first_of : List ℕ → Option ℕ
first_of [] = None
first_of (o ∷ rest) = Some o

abbrev held_by : Program → ℕ → ℕ → List ℕ → Option ℕ
held_by p d o children = if goes_to_component (default_of p d o) then first_of children else None

abbrev cell_row : Program → ℕ → NumberedMember → Option CellRow
cell_row p d r = elim (r.member) as (λ _. Option CellRow) [
  | a_property q a k n at v ↦ Some (record { name = n; kind = kind_named p d k; access = access_of a })
  | _ ↦ None
]

-- ---- the rows of a ListModel

abbrev literal_field : List Units → WrittenValue → Option (List ℕ × Value)
literal_field (n ∷ []) (by_stmt s) = option_map (λ v. (n, v)) (literal_of s)
literal_field _ _ = None

abbrev field_of : WrittenMember → Option (List ℕ × Value)
field_of (a_value at path v) = literal_field path v
field_of _ = None

abbrev is_element : Program → ℕ → ℕ → Bool
is_element p d o = is_type p d o no.ListElement

abbrev elements_of : Program → ℕ → List ℕ → List (List (List ℕ × Value))
elements_of p d children = map (λ o. filter_map field_of (object_at p d o).members) (filter (λ o. is_element p d o) children)

abbrev object_row : Program → Roots → ℕ → List NumberedMember → ℕ → ObjectRow
object_row p roots d all o =
    let members = of_object o all in
    let children = filter_map child_of members in
    record {
      shown = shown_of (object_at p d o).type;
      of_type = type_of_object p d o;
      owner = owner p d o;
      is_child = is_written_child p roots d (object_at p d o).role && is_type p d o no.Item;
      is_held = is_held p roots d o;
      holds = held_by p d o children;
      cells = filter_map (cell_row p d) members;
      values = flat_map (values_of p roots d children) members;
      changes = flat_map (changes_of p roots d) members;
      handlers = flat_map (handlers_of p d) members;
      names = own_rows p roots d o;
      elements = elements_of p d children;
    }

-- ---- components

abbrev stands_around : Program → Roots → ℕ → ℕ → Option ℕ → Bool
stands_around p roots d root None = false
stands_around p roots d root (Some w) = nat_eq (root_of p roots d w) root

abbrev stands_in : Program → Roots → ℕ → ℕ → ℕ → Bool
stands_in p roots d root o =
    not (is_element p d o) &&
    (nat_eq (root_of p roots d o) root || (is_held p roots d o && stands_around p roots d root (owner p d o)))

abbrev numbers_of : ℕ → List WrittenObject → List ℕ
numbers_of n [] = []
numbers_of n (w ∷ rest) = n ∷ numbers_of (suc n) rest

abbrev objects_in : Program → ℕ → List ℕ
objects_in p d = numbers_of 0 (unit_at p d).objects

abbrev component_row : Program → Roots → ℕ → ℕ → ComponentRow
component_row p roots d root = record {
  root = root;
  enclosing = enclosing p roots d root;
  standing = filter (λ o. stands_in p roots d root o) (objects_in p d);
  ids = map (λ (i : Id). (i.name, i.object)) (ids_in p roots d root);
}

-- ---- scripts

abbrev script_row : Program → ℕ → Import → Option (List ℕ × ℕ)
script_row p d (import_text text at (Some q) c) =
    if is_script_text text
    then option_map (λ n. (q, n)) (number_of p (record { is_script = true; path = joined_to (directory_of (unit_at p d).file.path) (utf8_of text) }))
    else None
script_row p d _ = None

abbrev name_of_function : Function → Units
name_of_function (function p n q ps k ss) = n

abbrev functions_from : ℕ → List Function → List (List ℕ × ℕ)
functions_from n [] = []
functions_from n (f ∷ rest) = (name_of_function f, n) ∷ functions_from (suc n) rest

-- the rows of the document or script of a number; of two qualifiers or functions of one name the later is found
abbrev pub rows_of_unit : Program → Roots → ℕ → UnitRows
rows_of_unit p roots d =
    let all = numbered p d in
    record {
      objects = map (object_row p roots d all) (objects_in p d);
      components = map (component_row p roots d) (filter (λ o. nat_eq (root_of p roots d o) o) (objects_in p d));
      bodies = bodies_of p d;
      bindings = bindings_of p d;
      scripts = reverse (filter_map (script_row p d) (unit_at p d).imports);
      functions = reverse (functions_from 0 (unit_at p d).functions);
    }

abbrev rows_from : Program → Roots → ℕ → List Unit → List UnitRows
rows_from p roots n [] = []
rows_from p roots n (u ∷ rest) = rows_of_unit p roots n ∷ rows_from p roots (suc n) rest

-- those of all documents and scripts of a program
abbrev pub rows_of_program : Program → Roots → List UnitRows
rows_of_program p roots = rows_from p roots 0 p

-- ---- lines of a script: a unit of its own, with one body and the functions of its `Qt.binding`s

abbrev pub rows_of_line : Stmts → UnitRows
rows_of_line ss = record {
  objects = [];
  components = [];
  bodies = of_statements ss ∷ map (λ (b : BindingFunction). of_statements b.statements) (in_all ss);
  bindings = places_from 1 (in_all ss);
  scripts = [];
  functions = [];
}

-- that of the path of a `print` line
abbrev pub rows_of_path : Expr → UnitRows
rows_of_path e = record { objects = []; components = []; bodies = of_statement (expr e auto) [] ∷ []; bindings = []; scripts = []; functions = [] }
