-- The types that a document names, and how they are found by its imports.
use Rattle.std.specs.Prelude.{Bool, true, false, not, ◌&&◌, if◌then◌else◌, List, [], ◌∷◌, ◌++◌, codes, reverse, Option, Some, None}
use Rattle.std.specs.Str.{bytes_eq}
use Rattle.std.specs.Option.{option_map, option_or, is_none, is_some}
use Rattle.std.specs.List.{ends_with}
use Rattle.qml_base.specs.declared.numbers.Place.{Place}
use Rattle.qml_text.specs.Parts.{join_of}
use Rattle.qml_syntax.specs.Tree.{Units, Names, Import, import_module, import_text, TypeName, own_type, type_of, Kind, kind_var, kind_name, kind_list, Object, object, Members, no_members, a_member, Member, id, property, bare, alias, signal, method, given, group, child, Value, value_object, value_list, value_stmt, Objects, last_object, an_object}
use Rattle.qml_types.specs.declared.kind.TypeNo.{TypeNo}
use Rattle.qml_types.specs.Table.{offered, offers}
use Rattle.qml_types.specs.Kinds.{basic_kind}
use Rattle.program_names.specs.Paths.{Path, joined_to}
use Rattle.program_names.specs.Utf8.{utf8_of}

-- a type's name in a document, with its qualifier; a kind of three names or more names no type
pub data TypeUse : Type 0 where
  uses_type : Place → Option Units → Units → TypeUse
  misnames_type : Place → TypeUse

abbrev uses_of_kind : Kind → List TypeUse
uses_of_kind kind_var = []
uses_of_kind (kind_list n p) = uses_type p None n ∷ []
uses_of_kind (kind_name n p []) = if is_some (basic_kind n) then [] else uses_type p None n ∷ []
uses_of_kind (kind_name n p (m ∷ [])) = uses_type p (Some n) m ∷ []
uses_of_kind (kind_name n p (m ∷ k ∷ ns)) = misnames_type p ∷ []

abbrev use_of_name : TypeName → TypeUse
use_of_name (own_type n p) = uses_type p None n
use_of_name (type_of q p n) = uses_type p (Some q) n

-- all of them in the order of writing; the kinds of parameters and of results aren't looked up
abbrev mutual
  pub type_uses : Object → List TypeUse
  type_uses (object t ms) = use_of_name t ∷ uses_in ms

  pub uses_in : Members → List TypeUse
  uses_in no_members = []
  uses_in (a_member m b ms) = uses_by m ++ uses_in ms

  pub uses_by : Member → List TypeUse
  uses_by (id p n q c) = []
  uses_by (property p a k n q v) = uses_of_kind k ++ uses_of_value v
  uses_by (bare p a k n q c) = uses_of_kind k
  uses_by (alias p d n q t r ns c) = []
  uses_by (signal p n q ps c) = []
  uses_by (method f) = []
  uses_by (given n p ns v) = uses_of_value v
  uses_by (group n p ns ms) = uses_in ms
  uses_by (child o) = type_uses o

  pub uses_of_value : Value → List TypeUse
  uses_of_value (value_object o) = type_uses o
  uses_of_value (value_list p os) = uses_of_objects os
  uses_of_value (value_stmt s) = []

  pub uses_of_objects : Objects → List TypeUse
  uses_of_objects (last_object o) = type_uses o
  uses_of_objects (an_object o os) = type_uses o ++ uses_of_objects os

-- what a type's name finds: a built-in type, or the file of a document
pub data TypeFound : Type 0 where
  built_in : TypeNo → TypeFound
  in_file : Path → TypeFound

abbrev same_qualifier : Option Units → Option Units → Bool
same_qualifier None None = true
same_qualifier (Some a) (Some b) = bytes_eq a b
same_qualifier _ _ = false

-- whether the text of an import names a script file; every other one names a directory
abbrev pub is_script_text : Units → Bool
is_script_text text = ends_with (λ a b. bytes_eq (a ∷ []) (b ∷ [])) text (codes ".js")

abbrev pub module_name : Units → Names → Units
module_name first names = join_of (codes ".") (first ∷ names)

-- the file of a type in a directory, if there is one
abbrev file_in : (Path → Bool) → Path → Units → Option TypeFound
file_in exists directory name =
    let path = joined_to directory (utf8_of name ++ codes ".qml") in
    if exists path then Some (in_file path) else None

abbrev found_by : (Path → Bool) → Path → Option Units → Units → Import → Option TypeFound
found_by exists here wanted name (import_module first p names v qualifier c) =
    if same_qualifier wanted qualifier then option_map built_in (offered offers (module_name first names) name) else None
found_by exists here wanted name (import_text text p qualifier c) =
    if same_qualifier wanted qualifier && not (is_script_text text)
    then file_in exists (joined_to here (utf8_of text)) name
    else None

abbrev found_in_imports : (Path → Bool) → Path → Option Units → Units → List Import → Option TypeFound
found_in_imports exists here wanted name [] = None
found_in_imports exists here wanted name (i ∷ rest) =
    option_or (found_by exists here wanted name i) (found_in_imports exists here wanted name rest)

-- the imports are gone through from the last to the first, then the document's own directory; an import with a
-- qualifier has only the names behind that qualifier
abbrev pub found_type : (Path → Bool) → Path → List Import → Option Units → Units → Option TypeFound
found_type exists here imports wanted name =
    option_or (found_in_imports exists here wanted name (reverse imports))
    (if is_none wanted then file_in exists here name else None)
