-- The place of an object's first token.
use Rattle.std.proofs.Common.{◌≡◌, ◌∙◌, ap, sym, refl, subst, ℕ, Bool, true, false, if◌then◌else◌, [], ◌++◌, map, reverse}
use Rattle.std.proofs.lemmas.Bool.{false≢true}
use Rattle.qml_base.specs.declared.numbers.Place.{Place}
use Rattle.qml_syntax.specs.declared.node.Node.{Node}
use Rattle.qml_syntax.specs.declared.node.Node.TheVariants as node
use Rattle.qml_syntax.specs.Tree.{own_type, type_of, object}
use Rattle.qml_syntax.specs.Nodes.{Item, mark, of_object, Parts, Table, apply, no_object}
use Rattle.qml_syntax.specs.Opened.{node_of, parts_of, top, IsListing}
use Rattle.qml_syntax.specs.Places.{part_at}
use Rattle.qml_syntax.proofs.GatherLemmas.{level_is_made}
use Rattle.program_names.specs.Written.{place_of_object}
use Rattle.document_members.specs.Parts.{object_in}
use Rattle.type_uses.specs.Uses.{nowhere, node_at}
use Rattle.type_uses.proofs.PartLemmas.{node_parts}
use Rattle.property_faults.specs.Places.{is_object_node, place_of_nodes, object_place}

abbrev is_object : Item → Bool
is_object (of_object o) = true
is_object _ = false

objects_alike : (x : Node) (z : Parts) → is_object_node x ≡ is_object (top (apply x z))
objects_alike node.Object z = refl
objects_alike _ z = refl

by_node : (i : Item) → is_object_node (node_of i) ≡ is_object i
by_node i = objects_alike (node_of i) (reverse (parts_of i) ++ []) ∙ ap (λ s. is_object (top s)) (level_is_made i [])

no_object_in : (i : Item) → is_object i ≡ false → object_in i ≡ no_object
no_object_in (of_object o) h = absurd (false≢true (sym h))
no_object_in mark h = refl
no_object_in _ h = refl

abbrev Holds : Bool → Type 0
Holds true = Unit {0}
Holds false = ⊥

abbrev place_item : Item → Place
place_item i = if is_object_node (node_of i) then place_of_nodes (map node_of (parts_of i)) else nowhere

an_object : (i : Item) → Holds (is_object i) → place_item i ≡ place_of_object (object_in i)
an_object (of_object (object (own_type n p) ms)) h = refl
an_object (of_object (object (type_of q p n) ms)) h = refl
an_object mark h = absurd h
an_object _ h = absurd h

item_place : (i : Item) → place_item i ≡ place_of_object (object_in i)
item_place i = by_test (is_object i) refl
  where
    by_test : (b : Bool) → is_object i ≡ b → place_item i ≡ place_of_object (object_in i)
    by_test true h = an_object i (subst Holds (sym h) tt)
    by_test false h =
        ap (λ b. if b then place_of_nodes (map node_of (parts_of i)) else nowhere) (by_node i ∙ h) ∙ ap place_of_object (sym (no_object_in i h))

pub object_said : (t : Table) (at : ℕ) → IsListing t → object_place t at ≡ place_of_object (object_in (part_at t at))
object_said t at lists =
    ap (λ xs. if is_object_node (node_at t at) then place_of_nodes xs else nowhere) (node_parts t at lists) ∙ item_place (part_at t at)
