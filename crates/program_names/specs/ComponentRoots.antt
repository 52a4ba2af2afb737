-- Which objects are roots of components, and for what a PropertyChanges gives values. What is given under aliases is
-- known once their targets are found, these once the components are known in which they stand: so it is settled by
-- rounds, from the root of the document inwards.
use Rattle.std.specs.Prelude.{ℕ, zero, suc, Bool, true, false, ◌&&◌, ◌||◌, not, nat_eq, if◌then◌else◌, List, [], ◌∷◌, map, length, codes, Option, Some, None}
use Rattle.std.specs.Str.{bytes_eq}
use Rattle.std.specs.Option.{option_map, option_and_then, option_or, is_some}
use Rattle.std.specs.List.{flat_map}
use Rattle.qml_syntax.specs.Tree.{Units, name, expr}
use Rattle.qml_types.specs.declared.kind.TypeNo.TheVariants as no
use Rattle.qml_types.specs.declared.kind.PropKind.{PropKind}
use Rattle.qml_types.specs.declared.kind.PropKind.TheVariants as kind
use Rattle.program_names.specs.Written.{WrittenObject, WrittenMember, a_value, WrittenValue, by_stmt, WrittenAs, as_root, as_child, as_value}
use Rattle.program_names.specs.Loaded.{Unit, Program, unit_at, object_at}
use Rattle.program_names.specs.Layers.{Layer, of_type, of_object, layers, NameMeaning, the_children, is_type, DefaultProperty, to_property, to_component, default_of, meaning}
use Rattle.program_names.specs.Components.{IsRoot, Roots, is_root_at, owner, is_known, root_of, enclosing, id_in}
use Rattle.program_names.specs.PathMeanings.{SeenObject, way_to, here, PathMeaning, a_property_of, an_object_of, a_handler, children_of, no_meaning, without_target, meaning_of_path}

-- ---- the target of a PropertyChanges

-- the value of `target` among these members
abbrev pub target_in : List WrittenMember → Option WrittenValue
target_in [] = None
target_in (a_value at (n ∷ []) v ∷ rest) = if bytes_eq n (codes "target") then Some v else target_in rest
target_in (m ∷ rest) = target_in rest

-- whether a name is one that expressions see
abbrev pub is_seen : Option NameMeaning → Bool
is_seen None = false
is_seen (Some the_children) = false
is_seen (Some m) = true

abbrev pub has_name : Program → ℕ → ℕ → Units → Bool
has_name p d o n = is_seen (meaning p d o n)

abbrev pub unless_hidden : Option ℕ → Bool → Option ℕ → Option ℕ
unless_hidden (Some o) hidden further = Some o
unless_hidden None true further = None
unless_hidden None false further = further

-- the object of an id by the order of names: in the components outwards, where no name of their roots, and of the scope
-- object in the first, comes before
abbrev pub id_outwards : ℕ → Program → Roots → ℕ → Bool → ℕ → Units → Option ℕ
id_outwards zero p roots d hidden root n = None
id_outwards (suc f) p roots d hidden root n =
    unless_hidden (id_in p roots d root n) (hidden || has_name p d root n)
    (option_and_then (λ r. id_outwards f p roots d false r n) (enclosing p roots d root))

abbrev pub id_seen : Program → Roots → ℕ → ℕ → Units → Option ℕ
id_seen p roots d o n =
    id_outwards (suc (length (unit_at p d).objects)) p roots d (has_name p d o n) (root_of p roots d o) n

-- the object that a value names by an id alone
abbrev pub id_of : Program → Roots → ℕ → ℕ → WrittenValue → Option ℕ
id_of p roots d o (by_stmt (expr (name n at) c)) = id_seen p roots d o n
id_of p roots d o _ = None

abbrev target_seen : ℕ → ℕ → ℕ → ℕ → SeenObject
target_seen d o e t = record { holder = if nat_eq e d then None else Some (way_to (here d o)); document = e; object = t }

-- the object that `target` names, where the object or one of its types' documents gives it
abbrev target_of_layer : Program → Roots → ℕ → ℕ → Layer → Option SeenObject
target_of_layer p roots d o (of_type t) = None
target_of_layer p roots d o (of_object e i) =
    option_map (target_seen d o e) (option_and_then (id_of p roots e i) (target_in (object_at p e i).members))

abbrev last_target : Program → Roots → ℕ → ℕ → List Layer → Option SeenObject
last_target p roots d o [] = None
last_target p roots d o (layer ∷ rest) = option_or (last_target p roots d o rest) (target_of_layer p roots d o layer)

abbrev pub target_of : Program → Roots → ℕ → ℕ → Option SeenObject
target_of p roots d o = last_target p roots d o (layers p d o)

abbrev is_own_name : Program → ℕ → ℕ → List Units → Bool
is_own_name p d o [] = true
is_own_name p d o (n ∷ rest) = is_some (meaning p d o n)

-- what a path means in a PropertyChanges for its target: a property or an object, no handler
abbrev only_values : PathMeaning → PathMeaning
only_values (a_property_of w place k a own) = a_property_of w place k a false
only_values (an_object_of s) = an_object_of s
only_values without_target = without_target
only_values _ = no_meaning

abbrev meaning_for : Program → Roots → Option SeenObject → List Units → PathMeaning
meaning_for p roots None path = without_target
meaning_for p roots (Some s) path = only_values (meaning_of_path p roots s path)

abbrev no_handler : PathMeaning → Bool
no_handler (a_handler names) = false
no_handler _ = true

-- whether what is given under a path is a change of the target: its own names and handlers come before
abbrev pub is_change : Program → Roots → ℕ → ℕ → List Units → Bool
is_change p roots d o path =
    is_type p d o no.PropertyChanges && (not (is_own_name p d o path) && no_handler (meaning_of_path p roots (here d o) path))

-- what the path means under which a value stands in an object
abbrev pub meaning_given : Program → Roots → ℕ → ℕ → List Units → PathMeaning
meaning_given p roots d o path =
    elim (is_change p roots d o path) [
      | true ↦ meaning_for p roots (target_of p roots d o) path
      | false ↦ meaning_of_path p roots (here d o) path
    ]

-- ---- which objects are roots

abbrev is_component_kind : PropKind → Bool
is_component_kind kind.Component = true
is_component_kind _ = false

abbrev pub root_by : Program → ℕ → ℕ → PathMeaning → IsRoot
root_by p d o (a_property_of w place k a own) = Some (is_component_kind k && not (is_type p d o no.Component))
root_by p d o (an_object_of s) = Some false
root_by p d o (a_handler names) = Some false
root_by p d o (children_of w) = Some false
root_by p d o no_meaning = None
root_by p d o without_target = None

abbrev pub root_as_child : Program → Roots → ℕ → ℕ → ℕ → DefaultProperty → IsRoot
root_as_child p roots d o w to_component = Some true
root_as_child p roots d o w (to_property n) = root_by p d o (meaning_of_path p roots (here d w) (n ∷ []))
root_as_child p roots d o w _ = Some false

-- whether what is written so is the root of a component
abbrev pub root_as : Program → Roots → ℕ → ℕ → WrittenAs → IsRoot
root_as p roots d o as_root = Some false
root_as p roots d o (as_child w) = root_as_child p roots d o w (default_of p d w)
root_as p roots d o (as_value w path) = root_by p d o (meaning_given p roots d w path)

-- what is known after one more round: an object is looked at once all around it are known
abbrev pub owner_known : Program → Roots → ℕ → Option ℕ → Bool
owner_known p roots d None = true
owner_known p roots d (Some w) = is_known p roots d w

abbrev pub next_root : Program → Roots → ℕ → ℕ → WrittenObject → IsRoot → IsRoot
next_root p roots d o w (Some b) = Some b
next_root p roots d o w None =
    elim (owner_known p roots d (owner p d o)) [ true ↦ root_as p roots d o w.role | false ↦ None ]

abbrev pub next_roots : Program → Roots → ℕ → ℕ → List WrittenObject → List IsRoot
next_roots p roots d o [] = []
next_roots p roots d o (w ∷ rest) = next_root p roots d o w (is_root_at roots d o) ∷ next_roots p roots d (suc o) rest

abbrev pub next_round : Program → Roots → ℕ → List Unit → Roots
next_round p roots d [] = []
next_round p roots d (u ∷ rest) = next_roots p roots d 0 u.objects ∷ next_round p roots (suc d) rest

abbrev pub same_root : IsRoot → IsRoot → Bool
same_root None None = true
same_root (Some a) (Some b) = if a then b else not b
same_root _ _ = false

abbrev pub same_row : List IsRoot → List IsRoot → Bool
same_row [] [] = true
same_row (a ∷ more) (b ∷ others) = same_root a b && same_row more others
same_row _ _ = false

abbrev pub same_roots : Roots → Roots → Bool
same_roots [] [] = true
same_roots (a ∷ more) (b ∷ others) = same_row a b && same_roots more others
same_roots _ _ = false

abbrev pub rounds : ℕ → Program → Roots → Roots
rounds zero p roots = roots
rounds (suc n) p roots =
    let next = next_round p roots 0 p in
    elim (same_roots roots next) [ true ↦ roots | false ↦ rounds n p next ]

abbrev pub unknown : WrittenObject → IsRoot
unknown w = None

abbrev pub nothing_known : Program → Roots
nothing_known p = map (λ (u : Unit). map unknown u.objects) p

abbrev pub settled : IsRoot → IsRoot
settled None = Some false
settled (Some b) = Some b

abbrev pub rounds_enough : Program → ℕ
rounds_enough p = suc (length (flat_map (λ (u : Unit). u.objects) p))

-- what is never known is given under a name that means nothing, and stays in the component around it
abbrev pub roots_of : Program → Roots
roots_of p = map (λ row. map settled row) (rounds (rounds_enough p) p (nothing_known p))
