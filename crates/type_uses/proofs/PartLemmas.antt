-- What nodes tell of a use is what their parts tell.
use Rattle.std.proofs.Common.{◌≡◌, ◌∙◌, ap, refl, ℕ, Bool, true, false, if◌then◌else◌, List, [], ◌∷◌, ◌++◌, map, Option, Some, None, is_some}
use Rattle.std.specs.Option.{option_to_list}
use Rattle.std.proofs.lemmas.List.{append-nil}
use Rattle.qml_types.specs.Kinds.{basic_kind}
use Rattle.qml_syntax.specs.Tree.{TypeName, own_type, type_of, Kind, kind_var, kind_name, kind_list, object, Members, Member, id, property, bare, alias, signal, method, given, group, child}
use Rattle.qml_syntax.specs.Nodes.{Item, of_kind, of_member, of_object, Table}
use Rattle.qml_syntax.specs.Opened.{node_of, parts_of, IsListing}
use Rattle.qml_syntax.specs.Places.{part_at, places_of}
use Rattle.qml_syntax.proofs.PlacesLemmas.{parts_at_places}
use Rattle.program_names.specs.Types.{TypeUse, uses_type, misnames_type, type_uses, uses_in, uses_by, uses_of_value}
use Rattle.type_uses.specs.Uses.{node_at, nodes_at, use_of_nodes, object_use, kind_use_of, kind_use, has_kind, first_kind, member_use}

map_map : {A B C : Type 0} (f : B → C) (g : A → B) (xs : List A) → map (λ x. f (g x)) xs ≡ map f (map g xs)
map_map f g [] = refl
map_map f g (x ∷ xs) = ap (λ ys. f (g x) ∷ ys) (map_map f g xs)

pub node_parts : (t : Table) (p : ℕ) → IsListing t → nodes_at t (places_of t p) ≡ map node_of (parts_of (part_at t p))
node_parts t p lists = map_map node_of (part_at t) (places_of t p) ∙ ap (map node_of) (parts_at_places t p lists)

-- ---- what the parts tell

abbrev pub object_item : Item → TypeUse
object_item i = use_of_nodes (map node_of (parts_of i))

abbrev kind_item : Item → Option TypeUse
kind_item i = kind_use_of (node_of i) (map node_of (parts_of i))

abbrev first_item : List Item → Option TypeUse
first_item [] = None
first_item (i ∷ is) = kind_item i

abbrev pub member_item : Item → Option TypeUse
member_item i = if has_kind (node_of i) then first_item (parts_of i) else None

pub object_at : (t : Table) (p : ℕ) → IsListing t → object_use t p ≡ object_item (part_at t p)
object_at t p lists = ap use_of_nodes (node_parts t p lists)

kind_at : (t : Table) (p : ℕ) → IsListing t → kind_use t p ≡ kind_item (part_at t p)
kind_at t p lists = ap (kind_use_of (node_at t p)) (node_parts t p lists)

first_at : (t : Table) (ps : List ℕ) → IsListing t → first_kind t ps ≡ first_item (map (part_at t) ps)
first_at t [] lists = refl
first_at t (p ∷ ps) lists = kind_at t p lists

pub member_at : (t : Table) (p : ℕ) → IsListing t → member_use t p ≡ member_item (part_at t p)
member_at t p lists =
    ap (λ (u : Option TypeUse). if has_kind (node_at t p) then u else None) (first_at t (places_of t p) lists ∙ ap first_item (parts_at_places t p lists))

-- ---- what that is

pub named : (x : TypeName) (ms : Members) (us : List TypeUse) → object_item (of_object (object x ms)) ∷ (uses_in ms ++ us) ≡ type_uses (object x ms) ++ us
named (own_type n p) ms us = refl
named (type_of q p n) ms us = refl

abbrev uses_of_kind : Kind → List TypeUse
uses_of_kind kind_var = []
uses_of_kind (kind_list n p) = uses_type p None n ∷ []
uses_of_kind (kind_name n p []) = if is_some (basic_kind n) then [] else uses_type p None n ∷ []
uses_of_kind (kind_name n p (m ∷ [])) = uses_type p (Some n) m ∷ []
uses_of_kind (kind_name n p (m ∷ k ∷ ns)) = misnames_type p ∷ []

unless : (b : Bool) (u : TypeUse) → option_to_list (if b then None else Some u) ≡ (if b then [] else u ∷ [])
unless true u = refl
unless false u = refl

kinds : (k : Kind) → option_to_list (kind_item (of_kind (Some k))) ≡ uses_of_kind k
kinds kind_var = refl
kinds (kind_list n p) = refl
kinds (kind_name n p []) = unless (is_some (basic_kind n)) (uses_type p None n)
kinds (kind_name n p (m ∷ [])) = refl
kinds (kind_name n p (m ∷ k ∷ ns)) = refl

-- those in a member beside its kind
abbrev pub uses_inside : Member → List TypeUse
uses_inside (id p n q c) = []
uses_inside (property p a k n q v) = uses_of_value v
uses_inside (bare p a k n q c) = []
uses_inside (alias p d n q t r ns c) = []
uses_inside (signal p n q ps c) = []
uses_inside (method f) = []
uses_inside (given n p ns v) = uses_of_value v
uses_inside (group n p ns ms) = uses_in ms
uses_inside (child o) = type_uses o

pub by_member : (m : Member) → option_to_list (member_item (of_member m false)) ++ uses_inside m ≡ uses_by m
by_member (id p n q c) = refl
by_member (property p a k n q v) = ap (λ us. us ++ uses_of_value v) (kinds k)
by_member (bare p a k n q c) = append-nil (option_to_list (kind_item (of_kind (Some k)))) ∙ kinds k
by_member (alias p d n q t r ns c) = refl
by_member (signal p n q None c) = refl
by_member (signal p n q (Some ps) c) = refl
by_member (method f) = refl
by_member (given n p ns v) = refl
by_member (group n p ns ms) = refl
by_member (child o) = refl
