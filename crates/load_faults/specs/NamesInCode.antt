-- What a name in an expression or a body finds, as far as loading tells.
use Rattle.std.specs.Prelude.{ℕ, zero, suc, Bool, true, false, ◌&&◌, if◌then◌else◌, List, [], ◌∷◌, length, Option, Some, None, codes}
use Rattle.std.specs.Str.{bytes_eq}
use Rattle.std.specs.Option.{option_map, option_or, option_and_then, unwrap_or}
use Rattle.qml_base.specs.declared.numbers.Place.{Place}
use Rattle.qml_syntax.specs.Tree.{Units, Import, import_module, import_text, Function, function}
use Rattle.qml_types.specs.declared.kind.TypeNo.TheVariants as no
use Rattle.program_names.specs.Names.{is_in, is_handler_name}
use Rattle.program_names.specs.Paths.{joined_to, directory_of}
use Rattle.program_names.specs.Utf8.{utf8_of}
use Rattle.program_names.specs.Types.{is_script_text}
use Rattle.program_names.specs.Loaded.{Program, unit_at, number_of}
use Rattle.program_names.specs.Layers.{NameMeaning, a_cell, a_signal_of, a_function_of, a_method, an_alias_of, the_children, is_type, meaning}
use Rattle.program_names.specs.Components.{Roots, id_in, root_of, enclosing}

-- an object of the document by its id; a function with its document and the object that declares it; a method of a
-- built-in type; another member; a script by its qualifier; a global; or nothing
pub data NameInCode : Type 0 where
  finds_id : ℕ → NameInCode
  finds_function : ℕ → ℕ → Function → NameInCode
  finds_method : NameInCode
  finds_member : NameInCode
  finds_script : ℕ → NameInCode
  finds_global : NameInCode
  finds_nothing : NameInCode

abbrev pub name_of_function : Function → Units
name_of_function (function p n q ps k ss) = n

-- A function of a Connections whose name is a handler's is that handler, and no function in expressions.
abbrev pub is_handler_function : Program → ℕ → ℕ → Function → Bool
is_handler_function p d o f = is_type p d o no.Connections && is_handler_name (name_of_function f)

abbrev pub found_function : Program → ℕ → ℕ → Function → NameInCode
found_function p d o f = if is_handler_function p d o f then finds_member else finds_function d o f

-- the children of an Item have no name in expressions
abbrev pub found_as_member : Program → NameMeaning → Option NameInCode
found_as_member p (a_cell place k a) = Some finds_member
found_as_member p (a_signal_of names) = Some finds_member
found_as_member p (a_function_of d o f) = Some (found_function p d o f)
found_as_member p a_method = Some finds_method
found_as_member p (an_alias_of d o target) = Some finds_member
found_as_member p the_children = None

abbrev pub member_found : Program → ℕ → ℕ → Units → Option NameInCode
member_found p d o n = option_and_then (found_as_member p) (meaning p d o n)

-- ---- scripts and globals

abbrev pub globals : List Units
globals =
    codes "undefined" ∷ codes "Math" ∷ codes "Qt" ∷ codes "console" ∷ codes "String" ∷ codes "Loader" ∷ codes "Binding" ∷ []

abbrev pub script_at : Program → ℕ → Units → Option ℕ
script_at p d text =
    let here = directory_of (unit_at p d).file.path in
    number_of p (record { is_script = true; path = joined_to here (utf8_of text) })

-- of two scripts with one qualifier the later counts
abbrev pub script_of : Program → ℕ → Units → List Import → Option ℕ
script_of p d n [] = None
script_of p d n (import_module first q ns v qualifier c ∷ rest) = script_of p d n rest
script_of p d n (import_text t q None c ∷ rest) = script_of p d n rest
script_of p d n (import_text t q (Some m) c ∷ rest) =
    option_or (script_of p d n rest) (if bytes_eq m n && is_script_text t then script_at p d t else None)

-- of two functions of one name in a script the later counts
abbrev pub function_in : List Function → Units → Option Function
function_in [] n = None
function_in (f ∷ rest) n = option_or (function_in rest n) (if bytes_eq (name_of_function f) n then Some f else None)

abbrev pub global_named : Units → NameInCode
global_named n = if is_in n globals then finds_global else finds_nothing

abbrev pub script_or_global : Program → ℕ → Units → NameInCode
script_or_global p d n = unwrap_or (option_map finds_script (script_of p d n (unit_at p d).imports)) (global_named n)

-- ---- the order of names: the ids of the component, the scope object, the component's root, and the enclosing
-- components outwards in the same way

abbrev pub found_outwards : ℕ → Program → Roots → ℕ → Option NameInCode → ℕ → Units → Option NameInCode
found_outwards zero p roots d scope root n = None
found_outwards (suc f) p roots d scope root n =
    option_or (option_map finds_id (id_in p roots d root n))
    (option_or scope
    (option_or (member_found p d root n)
    (option_and_then (λ r. found_outwards f p roots d None r n) (enclosing p roots d root))))

-- Where code stands: the program and its roots of components, its object and its scope object, the names of locals and
-- parameters, and inside the function of a `Qt.binding` its place and the names around it; and whether no effect may be
-- there.
pub record Standpoint : Type 0 where
  pub program : Program
  pub roots : Roots
  pub document : ℕ
  pub object : ℕ
  pub scope_document : ℕ
  pub scope : ℕ
  pub locals : List Units
  pub around : List Units
  pub inside : Option Place
  pub pure : Bool

abbrev pub found_in_document : Standpoint → Units → NameInCode
found_in_document h n =
    let deep = suc (length (unit_at h.program h.document).objects) in
    let scope = member_found h.program h.scope_document h.scope n in
    unwrap_or (found_outwards deep h.program h.roots h.document scope (root_of h.program h.roots h.document h.object) n)
    (script_or_global h.program h.document n)

abbrev pub found_in_script : Standpoint → Units → NameInCode
found_in_script h n =
    let functions = (unit_at h.program h.document).functions in
    unwrap_or (option_map (finds_function h.document 0) (function_in functions n)) (global_named n)

abbrev pub is_in_script : Standpoint → Bool
is_in_script h = (unit_at h.program h.document).file.is_script

-- what a name that is no local finds
abbrev pub found_in_code : Standpoint → Units → NameInCode
found_in_code h n = elim (is_in_script h) [ true ↦ found_in_script h n | false ↦ found_in_document h n ]
