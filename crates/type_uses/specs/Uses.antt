-- Types that a document uses, as its nodes tell them: a node by its place, with the nodes of its parts.
use Rattle.std.specs.Prelude.{ℕ, ◌-◌, min, Bool, true, false, if◌then◌else◌, List, [], ◌∷◌, ◌++◌, map, take, drop, length, Option, Some, None, is_some}
use Rattle.std.specs.Option.{option_to_list}
use Rattle.qml_base.specs.declared.numbers.Place.{Place}
use Rattle.qml_syntax.specs.declared.node.Node.{Node}
use Rattle.qml_syntax.specs.declared.node.Node.TheVariants as node
use Rattle.qml_syntax.specs.Tree.{Units}
use Rattle.qml_syntax.specs.Nodes.{Table}
use Rattle.qml_syntax.specs.Opened.{node_of}
use Rattle.qml_syntax.specs.Places.{part_at, places_of}
use Rattle.qml_types.specs.Kinds.{basic_kind}
use Rattle.program_names.specs.Types.{TypeUse, uses_type, misnames_type}
use Rattle.document_rows.specs.declared.rows.ObjectRow.{ObjectRow}
use Rattle.document_rows.specs.declared.rows.MemberRow.{MemberRow}
use Rattle.type_uses.specs.declared.uses.TypeUse as code
use Rattle.type_uses.specs.declared.uses.TypeUse.TheVariants as told
use Rattle.type_uses.specs.declared.names.Name.{Name}

-- what a use is
abbrev pub use_of : code.TypeUse → TypeUse
use_of (told.Named at qualifier name) = uses_type at qualifier name
use_of (told.Misnamed at) = misnames_type at

abbrev pub uses_of : List code.TypeUse → List TypeUse
uses_of uses = map use_of uses

abbrev pub nowhere : Place
nowhere = record { line = 0; column = 0 }

-- ---- names

abbrev pub name_in : Node → Name
name_in (node.First n p) = record { text = n; at = p }
name_in _ = record { text = []; at = nowhere }

abbrev pub dot_in : Node → Option Units
dot_in (node.Dot n) = Some n
dot_in _ = None

abbrev pub node_at : Table → ℕ → Node
node_at t p = node_of (part_at t p)

abbrev pub nodes_at : Table → List ℕ → List Node
nodes_at t ps = map (node_at t) ps

abbrev pub first_dot : List Node → Option Units
first_dot [] = None
first_dot (x ∷ xs) = dot_in x

abbrev pub some_name : Option Units → Units
some_name (Some n) = n
some_name None = []

-- ---- the type of an object

abbrev pub named_use : Name → Option Units → TypeUse
named_use first None = uses_type first.at None first.text
named_use first (Some n) = uses_type first.at (Some first.text) n

abbrev pub use_of_nodes : List Node → TypeUse
use_of_nodes [] = misnames_type nowhere
use_of_nodes (x ∷ xs) = named_use (name_in x) (first_dot xs)

abbrev pub object_use : Table → ℕ → TypeUse
object_use t p = use_of_nodes (nodes_at t (places_of t p))

-- ---- kinds

abbrev unless_basic : Name → Option TypeUse
unless_basic first = if is_some (basic_kind first.text) then None else Some (uses_type first.at None first.text)

abbrev pub path_use : Name → List Node → Option TypeUse
path_use first [] = unless_basic first
path_use first (x ∷ []) = Some (uses_type first.at (Some first.text) (some_name (dot_in x)))
path_use first (x ∷ y ∷ xs) = Some (misnames_type first.at)

abbrev pub paths_use : List Node → Option TypeUse
paths_use [] = None
paths_use (x ∷ xs) = path_use (name_in x) xs

abbrev pub kind_use_of : Node → List Node → Option TypeUse
kind_use_of (node.KindList n p) xs = Some (uses_type p None n)
kind_use_of node.KindName xs = paths_use xs
kind_use_of _ xs = None

abbrev pub kind_use : Table → ℕ → Option TypeUse
kind_use t p = kind_use_of (node_at t p) (nodes_at t (places_of t p))

-- ---- members

abbrev pub has_kind : Node → Bool
has_kind (node.Property p a) = true
has_kind (node.Bare p a c) = true
has_kind _ = false

abbrev pub first_kind : Table → List ℕ → Option TypeUse
first_kind t [] = None
first_kind t (p ∷ ps) = kind_use t p

abbrev pub member_use : Table → ℕ → Option TypeUse
member_use t p = if has_kind (node_at t p) then first_kind t (places_of t p) else None

-- ---- objects and members in the order of writing: n objects stand before these

abbrev pub merged : {A B : Type 0} → (A → TypeUse) → (B → Option TypeUse) → (B → ℕ) → ℕ → List A → List B → List TypeUse
merged f g first n os [] = map f os
merged f g first n os (m ∷ ms) =
    map f (take (min (first m - n) (length os)) os) ++
    (option_to_list (g m) ++ merged f g first (first m) (drop (min (first m - n) (length os)) os) ms)

abbrev pub uses_in_rows : Table → ℕ → List ObjectRow → List MemberRow → List TypeUse
uses_in_rows t n os ms =
    merged (λ (o : ObjectRow). object_use t o.node) (λ (m : MemberRow). member_use t m.node) (λ (m : MemberRow). m.first) n os ms
