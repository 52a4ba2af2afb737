-- The types of objects and the kinds of properties, by the nodes that name them and what the names find.
use Rattle.std.specs.Prelude.{ℕ, List, [], ◌∷◌, Option, Some, None}
use Rattle.std.specs.Option.{unwrap_or}
use Rattle.qml_syntax.specs.declared.node.Node.{Node}
use Rattle.qml_syntax.specs.declared.node.Node.TheVariants as node
use Rattle.qml_syntax.specs.Tree.{Units}
use Rattle.qml_syntax.specs.Nodes.{Table}
use Rattle.qml_syntax.specs.Places.{places_of}
use Rattle.qml_types.specs.declared.kind.TypeNo.TheVariants as no
use Rattle.qml_types.specs.declared.kind.TypeRef.{TypeRef}
use Rattle.qml_types.specs.declared.kind.TypeRef.TheVariants.{Builtin}
use Rattle.qml_types.specs.declared.kind.PropKind.{PropKind}
use Rattle.qml_types.specs.declared.kind.PropKind.TheVariants as kind
use Rattle.qml_types.specs.Kinds.{basic_kind, kind_of_type}
use Rattle.program_names.specs.Paths.{Path}
use Rattle.program_names.specs.Reading.{File}
use Rattle.program_names.specs.Types.{TypeUse, uses_type, misnames_type}
use Rattle.type_uses.specs.declared.names.Name.{Name}
use Rattle.type_uses.specs.Uses.{node_at, nodes_at, name_in, first_dot, object_use}
use Rattle.document_imports.specs.Imports.{WrittenImport}
use Rattle.document_members.specs.declared.member.Member.{Member}
use Rattle.document_members.specs.declared.member.Member.TheVariants as m
use Rattle.program_types.specs.Numbers.{type_in}

-- ---- types, over the files of a program, in a document of a directory with these imports

abbrev pub type_by : List File → Path → List WrittenImport → TypeUse → Option TypeRef
type_by files here imports (uses_type at q n) = type_in files here imports q n
type_by files here imports (misnames_type at) = None

abbrev pub or_object : Option TypeRef → TypeRef
or_object found = unwrap_or found (Builtin no.QtObject)

-- the type of the object at a place
abbrev pub object_type : List File → Path → List WrittenImport → Table → ℕ → TypeRef
object_type files here imports t at = or_object (type_by files here imports (object_use t at))

-- the type of an object that has no name of one
abbrev pub nameless_type : List File → Path → TypeRef
nameless_type files here = or_object (type_in files here [] None [])

-- ---- kinds

abbrev pub type_or_var : Option TypeRef → PropKind
type_or_var None = kind.Var
type_or_var (Some t) = kind_of_type t

abbrev pub list_or_var : Option TypeRef → PropKind
list_or_var None = kind.Var
list_or_var (Some t) = kind.List t

abbrev pub single_kind : List File → Path → List WrittenImport → Units → PropKind
single_kind files here imports n = unwrap_or (basic_kind n) (type_or_var (type_in files here imports None n))

abbrev pub path_kind : List File → Path → List WrittenImport → Name → Option Units → PropKind
path_kind files here imports first None = single_kind files here imports first.text
path_kind files here imports first (Some n) = type_or_var (type_in files here imports (Some first.text) n)

abbrev pub kind_of_nodes : List File → Path → List WrittenImport → List Node → PropKind
kind_of_nodes files here imports [] = kind.Var
kind_of_nodes files here imports (x ∷ xs) = path_kind files here imports (name_in x) (first_dot xs)

abbrev pub kind_by_node : List File → Path → List WrittenImport → Node → List Node → PropKind
kind_by_node files here imports (node.KindList n p) xs = list_or_var (type_in files here imports None n)
kind_by_node files here imports node.KindName xs = kind_of_nodes files here imports xs
kind_by_node files here imports _ xs = kind.Var

-- the kind at a place
abbrev pub kind_at : List File → Path → List WrittenImport → Table → ℕ → PropKind
kind_at files here imports t at = kind_by_node files here imports (node_at t at) (nodes_at t (places_of t at))

-- the kind that a member declares
abbrev pub member_kind : List File → Path → List WrittenImport → Table → Member → PropKind
member_kind files here imports t (m.Property p a k name at v) = kind_at files here imports t k
member_kind files here imports t _ = kind.Var
